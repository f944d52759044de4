-- What is recorded of a datagram. Words: arrival_in a datagram; arrival_line.
use Rattle.std.specs.Prelude.{ℕ, List, ◌++◌, Bool, true, false, Option, codes}
use Rattle.rohc_concentrator.specs.Events.{Arrive}
use Rattle.rohc_replay.specs.Script.{spelling}
use Rattle.rohc_station.specs.Timed.{TimedPacket, timed_in}
use Rattle.rohc_station.specs.Taking.{dated}

-- the packet of a datagram that came at this moment, by the moment in it if it is a timed one
abbrev pub arrival_in : (is_timed : Bool) → (now : ℕ) → List ℕ → Option TimedPacket
arrival_in true now octets = timed_in octets
arrival_in false now octets = dated now octets

-- the line of a script by which a packet arrives
abbrev pub arrival_line : (link moment : ℕ) → List ℕ → List ℕ
arrival_line link moment packet = spelling (Arrive link moment packet) ++ codes "\n"

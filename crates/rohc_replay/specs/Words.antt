-- The content of a line. Words: event_in, size_in.
use Rattle.std.specs.Prelude.{ℕ, List, take}
use Rattle.rohc_replay.specs.declared.words.Words.{Words}
use Rattle.rohc_replay.specs.declared.words.Words.TheVariants as words
use Rattle.rohc_concentrator.specs.Events.{Event, Arrive, Reset}

-- the event of a line, with the octets of its packet
abbrev pub event_in : Words → List ℕ → Event
event_in (words.Arrive link moment size) packet = Arrive link moment (take size packet)
event_in (words.Reset link) packet = Reset link

-- how many octets its packet has
abbrev pub size_in : Words → ℕ
size_in (words.Arrive link moment size) = size
size_in (words.Reset link) = 0

-- Many arrivals in one call. Words: octets_of; needed, buffers_in; LieWithin, HasRoomForMany;
-- AreTold, HaveArrived.
use Rattle.std.specs.Prelude.{◌≡◌, ℕ, ◌+◌, ◌≤◌, length, List, [], ◌∷◌, take, drop, All, sum_by}
use Rattle.rohc_concentrator.specs.declared.concentrator.Concentrator.{Concentrator}
use Rattle.rohc_concentrator.specs.Report.{Report}
use Rattle.rohc_concentrator.specs.Calls.{Arrive, Reported}
use Rattle.rohc_concentrator.specs.RunsCall.{Turn, Runs}
use Rattle.rohc_c.specs.Written.{Buffers, IsAnswerWritten}
use Rattle.rohc_c.specs.declared.arrival.RohcArrival.{RohcArrival}
use Rattle.rohc_c.specs.declared.many.RohcPacket.{RohcPacket}

-- a packet's octets, which stand among those of all
abbrev pub octets_of : RohcPacket → List ℕ → List ℕ
octets_of p octets = take p.count (drop p.at octets)

-- the room for an answer to so many octets: for the rebuilt packet, for feedback, and for relayed feedback
abbrev pub needed : ℕ → ℕ
needed count = count + 40 + (8 + count)

-- the three buffers of the first answer in a room, one behind the other
abbrev pub buffers_in : ℕ → List ℕ → Buffers
buffers_in count room = record {
  packet = take (count + 40) room;
  feedback = take 8 (drop (count + 40) room);
  relayed = take count (drop 8 (drop (count + 40) room));
}

-- each packet lies within so many octets
abbrev pub LieWithin : List RohcPacket → ℕ → Type 0
LieWithin packets most = All (λ p. p.at + p.count ≤ most) packets

-- there are at most 1,024 packets, and as many structs at least; each packet lies within the octets, and
-- there is room for all answers
pub record HasRoomForMany (packets : List RohcPacket) (octets room : List ℕ) (answers : List RohcArrival) :
    Type 0 where
  pub few : length packets ≤ 1024
  pub structs : length packets ≤ length answers
  pub within : LieWithin packets (length octets)
  pub fits : sum_by (λ p. needed p.count) packets ≤ length room

-- the arrival of a packet, with this report
abbrev pub arrival_of : RohcPacket → List ℕ → Report → Turn
arrival_of p octets report =
    record { link = p.link; call = Arrive p.moment (octets_of p octets); answer = Reported report }

-- the answer to each packet is written as that of a single call, in its own part of the room
abbrev pub AreTold : List RohcPacket → (octets room : List ℕ) → List RohcArrival → List Turn → Type 0
AreTold [] octets room answers turns = turns ≡ []
AreTold (p ∷ ps) octets room [] turns = ⊥
AreTold (p ∷ ps) octets room (a ∷ answers) turns =
    (report : Report) × (rest : List Turn) × (turns ≡ arrival_of p octets report ∷ rest)
    × IsAnswerWritten report (buffers_in p.count room) a
    × AreTold ps octets (drop (needed p.count) room) answers rest

-- packets arrive one after the other, and all are told
abbrev pub HaveArrived : List RohcPacket → (octets room : List ℕ) → List RohcArrival → Concentrator →
    Concentrator → Type 0
HaveArrived packets octets room answers k n =
    (turns : List Turn) × AreTold packets octets room answers turns × Runs k turns n

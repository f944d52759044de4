-- An answer as C reads it. Words: Buffers, the caller's buffers; StandsIn, IsPartTold,
-- TellsAnswer; IsAnswerWritten; IsWithin.
use Rattle.std.specs.Prelude.{◌≡◌, ℕ, ◌≤◌, List, [], ◌++◌, length, take, Bool, true, false, Option, Some, None, IfSome}
use Rattle.rohc_context.specs.Response.{Packet}
use Rattle.rohc_context.specs.Refusal.{number_of}
use Rattle.rohc_concentrator.specs.Report.{Report, Arrived, OnlyFront, Refused}
use Rattle.rohc_counts.specs.Counted.{outcome_number}
use Rattle.rohc_c.specs.Relay.{told}
use Rattle.rohc_c.specs.declared.arrival.RohcArrival.{RohcArrival}

-- the caller's buffers
pub record Buffers : Type 0 where
  pub packet : List ℕ
  pub feedback : List ℕ
  pub relayed : List ℕ

-- all of these octets stand at the start of a buffer; `count` is their number
abbrev pub StandsIn : List ℕ → ℕ → List ℕ → Type 0
StandsIn octets count place = (count ≡ length octets) × (take count place ≡ octets)

-- octets, or none: whether there are some, and if so, all of them at the start of a buffer
abbrev pub IsPartTold : Option (List ℕ) → List ℕ → (some : Bool) → (count : ℕ) → Type 0
IsPartTold None place some count = (some ≡ false) × (count ≡ 0)
IsPartTold (Some octets) place some count = (some ≡ true) × StandsIn octets count place

-- the octets of a rebuilt packet, if there is one
abbrev pub whole_packet : Option Packet → Option (List ℕ)
whole_packet None = None
whole_packet (Some p) = Some (p.head ++ p.payload)

-- the struct has these numbers, and the buffers have this packet, feedback and relayed feedback
pub record TellsAnswer (kind outcome cid : ℕ) (packet : Option (List ℕ)) (feedback : Option (List ℕ))
    (relayed : List (List ℕ)) (p : Buffers) (a : RohcArrival) : Type 0 where
  pub kind_told : a.kind ≡ kind
  pub outcome_told : a.outcome ≡ outcome
  pub cid_told : a.cid ≡ cid
  pub packet_told : IsPartTold packet p.packet a.has_packet a.packet_length
  pub feedback_told : IsPartTold feedback p.feedback a.has_feedback a.feedback_length
  pub relayed_count : a.relayed_count ≡ length relayed
  pub relayed_told : StandsIn (told relayed) a.relayed_length p.relayed

-- An answer stands in the struct and the buffers: kind 0 for the answer of a CID's context, 1 for padding and
-- feedback alone, 2 for a refusal without a CID.
abbrev pub IsAnswerWritten : Report → Buffers → RohcArrival → Type 0
IsAnswerWritten (Arrived cid r relayed) p a =
    TellsAnswer 0 (outcome_number r.outcome) cid (whole_packet r.packet) r.feedback relayed p a
IsAnswerWritten (OnlyFront relayed) p a = TellsAnswer 1 0 0 None None relayed p a
IsAnswerWritten (Refused refusal) p a = TellsAnswer 2 (number_of refusal) 0 None None [] p a

-- the feedback for this side's compressor that an answer relays
abbrev pub relayed_in : Report → List (List ℕ)
relayed_in (Arrived cid response relayed) = relayed
relayed_in (OnlyFront relayed) = relayed
relayed_in (Refused refusal) = []

-- the payload of a rebuilt packet, if there is one, has at most this many octets
abbrev pub IsPacketWithin : ℕ → Option Packet → Type 0
IsPacketWithin most packet = IfSome packet (λ (p : Packet). length p.payload ≤ most)

abbrev pub IsWithin : ℕ → Report → Type 0
IsWithin most (Arrived cid response relayed) = IsPacketWithin most response.packet
IsWithin most (OnlyFront relayed) = Unit {0}
IsWithin most (Refused refusal) = Unit {0}

-- A reply as plain data. Words: Packet, Response; response_of; delivered, IsRebuilt, stored, failed, refused.
use Rattle.std.specs.Prelude.{◌≡◌, ℕ, List, length, Option, Some, None}
use Rattle.rohc_context.specs.declared.refusal.Refusal.{Refusal}
use Rattle.rohc_context.specs.declared.reply.Delivered.{Delivered}
use Rattle.rohc_context.specs.declared.reply.Outcome.{Outcome}
use Rattle.rohc_context.specs.declared.reply.Outcome.TheVariants as outcomes
use Rattle.rohc_context.specs.declared.reply.Reply.{Reply}
use Rattle.rohc_feedback.specs.Element.{octets_of}

-- A rebuilt packet: its head, and the payload after it.
pub record Packet : Type 0 where
  pub head : List ℕ
  pub payload : List ℕ

-- A reply, apart from where its octets lie in memory.
pub record Response : Type 0 where
  pub packet : Option Packet
  pub feedback : Option (List ℕ)
  pub outcome : Outcome

abbrev pub packet_in : Option Delivered → Option Packet
packet_in None = None
packet_in (Some d) = Some (record { head = d.head.items; payload = d.payload.now })

abbrev pub response_of : Reply → Response
response_of r = record { packet = packet_in r.packet; feedback = octets_of r.feedback; outcome = r.outcome }

-- a packet is delivered, with this feedback or none
abbrev pub delivered : List ℕ → List ℕ → Option (List ℕ) → Response
delivered head payload feedback = record {
  packet = Some (record { head = head; payload = payload });
  feedback = feedback;
  outcome = outcomes.Delivered;
}

-- a packet is delivered behind a rebuilt header, without feedback
abbrev pub IsRebuilt : Response → Type 0
IsRebuilt r = (head payload : List ℕ) × (length head ≡ 40) × (r ≡ delivered head payload None)

-- the context was made or renewed, without a packet
abbrev pub stored : Option (List ℕ) → Response
stored feedback = record { packet = None; feedback = feedback; outcome = outcomes.Stored }

-- the packet is refused, with this feedback or none
abbrev pub failed : Refusal → Option (List ℕ) → Response
failed refusal feedback = record { packet = None; feedback = feedback; outcome = outcomes.Refused refusal }

-- it is refused without feedback
abbrev pub refused : Refusal → Response
refused refusal = failed refusal None

-- What a run over a capture writes. Words: delivered_packet; packet_text, feedback_text; packet_of,
-- feedback_of; TakesPacket.
use Rattle.std.specs.Prelude.{ℕ, ◌/◌, ◌%◌, List, [], ◌∷◌, ◌++◌, Bool, Option, Some, None}
use Rattle.std.specs.Io.KnownBytes.{Appends}
use Rattle.rohc_context.specs.declared.reply.Delivered.{Delivered}
use Rattle.rohc_context.specs.Response.{Packet}
use Rattle.rohc_concentrator.specs.declared.concentrator.Concentrator.{Concentrator}
use Rattle.rohc_concentrator.specs.Report.{Report, Arrived, OnlyFront, Refused}
use Rattle.rohc_concentrator.specs.Events.{Arrives}
use Rattle.rohc_capture.specs.declared.writer.Format.{Format}
use Rattle.rohc_capture.specs.Written.{frame_record}
use Rattle.rohc_decompress.specs.Cut.{shown}

abbrev pub delivered_packet : Delivered → Packet
delivered_packet d = record { head = d.head.items; payload = d.payload.now }

-- the octets that are written of a packet, if there is one: its record
abbrev pub packet_text : Format → Bool → ℕ → Option Packet → List ℕ
packet_text format padded nanos None = []
packet_text format padded nanos (Some p) = frame_record format nanos (p.head ++ shown padded p.head p.payload)

-- an Ethernet header with the EtherType of ROHC, to 02:00:00:00:00:00, from 02:00:00:00 with the link's
-- number behind
abbrev pub feedback_header : ℕ → List ℕ
feedback_header link =
    2 ∷ 0 ∷ 0 ∷ 0 ∷ 0 ∷ 0 ∷ 2 ∷ 0 ∷ 0 ∷ 0 ∷ link / 256 ∷ link % 256 ∷ 0x22 ∷ 0xf1 ∷ []

-- the octets that are written of a feedback element, if there is one
abbrev pub feedback_text : Format → ℕ → ℕ → Option (List ℕ) → List ℕ
feedback_text format link nanos None = []
feedback_text format link nanos (Some element) = frame_record format nanos (feedback_header link ++ element)

-- the packet that an answer delivers, and the feedback that is due
abbrev pub packet_of : Report → Option Packet
packet_of (Arrived cid response relayed) = response.packet
packet_of (OnlyFront relayed) = None
packet_of (Refused refusal) = None

abbrev pub feedback_of : Report → Option (List ℕ)
feedback_of (Arrived cid response relayed) = response.feedback
feedback_of (OnlyFront relayed) = None
feedback_of (Refused refusal) = None

-- what a run works on: the concentrator, and what is known of the octets that both writers hold
pub record Work : Type 0 where
  pub concentrator : Concentrator
  pub packets : Option (List ℕ)
  pub feedback : Option (List ℕ)

abbrev pub work : Concentrator → Option (List ℕ) → Option (List ℕ) → Work
work concentrator packets feedback =
    record { concentrator = concentrator; packets = packets; feedback = feedback }

-- a packet arrives on its link at its moment in milliseconds, and what the answer says is written with its
-- nanosecond
pub record TakesPacket (format : Format) (padded : Bool) (link nanos : ℕ) (packet : List ℕ)
    (old new : Work) : Type 0 where
  pub report : Report
  pub arrives : Arrives old.concentrator link (nanos / 1000000) packet report new.concentrator
  pub packets : Appends old.packets new.packets (packet_text format padded nanos (packet_of report))
  pub feedback : Appends old.feedback new.feedback (feedback_text format link nanos (feedback_of report))

-- The feedback that is sent to the compressor, in O mode alone (RFC 3095 5.3.2.2, 5.4.1).
-- Words: sent.
use Rattle.std.specs.Prelude.{ℕ, List, Option, Some, None}
use Rattle.rohc_frame.specs.declared.header.CidKind.{CidKind}
use Rattle.rohc_frame.specs.Header.{Header}
use Rattle.rohc_feedback.specs.Element.{ack_octets, nack_octets, static_nack_octets, plain_ack_octets}
use Rattle.rohc_context.specs.declared.due.Due.{Due}
use Rattle.rohc_context.specs.declared.due.Due.TheVariants.{Nothing, Ack, Nack, StaticNack, PlainAck}
use Rattle.rohc_context.specs.declared.settings.Mode.{Mode}
use Rattle.rohc_context.specs.declared.settings.Mode.TheVariants.{U, O}

-- the feedback element for what is due
abbrev pub element_of : CidKind → (cid : ℕ) → Due → Option (List ℕ)
element_of size cid Nothing = None
element_of size cid (Ack sn) = Some (ack_octets size cid sn)
element_of size cid (Nack sn) = Some (nack_octets size cid sn)
element_of size cid StaticNack = Some (static_nack_octets size cid)
element_of size cid PlainAck = Some (plain_ack_octets size cid)

abbrev pub sent : Mode → Header → Due → Option (List ℕ)
sent U h due = None
sent O h due = element_of h.size h.cid due

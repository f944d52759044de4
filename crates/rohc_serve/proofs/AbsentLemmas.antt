-- A packet of a link that isn't there is refused and changes nothing.
use Rattle.std.proofs.Common.{◌≡◌, ℕ, List, ◌∙◌}
use Rattle.std.specs.Prelude.{Some, None}
use Rattle.rohc_context.specs.declared.refusal.Refusal.TheVariants.{NoLink}
use Rattle.rohc_concentrator.specs.declared.concentrator.Concentrator.{Concentrator}
use Rattle.rohc_concentrator.specs.Setup.{entry_of}
use Rattle.rohc_concentrator.specs.Report.{Refused}
use Rattle.rohc_concentrator.proofs.ArriveLemmas.{absent_arrives}
use Rattle.rohc_links.specs.Links.{Lists}
use Rattle.rohc_serve.specs.Outgoing.{Outgoing, refused_for}
use Rattle.rohc_serve.specs.Datagram.{AreSettingsOf, named_link, datagram_packet, ports_of, Answers}

pub answers_absent : (links : Lists) (k : Concentrator) (moment link : ℕ) (octets : List ℕ) (outgoing : Outgoing) →
    AreSettingsOf k links.settings → named_link octets ≡ Some link → entry_of link links.settings ≡ None →
    ports_of link links ≡ None → outgoing ≡ refused_for None → Answers links k moment octets outgoing k
answers_absent links k moment link octets outgoing settings named absent portless refused =
    rw named (Refused NoLink, absent_arrives k link moment (datagram_packet octets) (settings.each link ∙ absent), rw portless refused)

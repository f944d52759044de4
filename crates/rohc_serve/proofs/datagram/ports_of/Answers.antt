use Rattle.rohc_serve.proofs.PlaceLemmas.{no_entry, ports_at}
use Rattle.rohc_serve.proofs.datagram.ports_of.Goals as goal

pub returns-in_default-clause-absent : goal.returns-in_default-clause-absent
returns-in_default-clause-absent c = no_entry _ _ _ c.settings.ensures c.in_default.ensures.place

pub returns-clause-ports : goal.returns-clause-ports
returns-clause-ports c =
    ports_at _ c.args.links.now _ _ _ _ c.settings.ensures c.ports.ensures.value c.ports.ensures.paired c.in-Some.ensures.within c.in-Some.ensures.place

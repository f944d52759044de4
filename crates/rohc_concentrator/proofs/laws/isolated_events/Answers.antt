use Rattle.rohc_concentrator.proofs.EventLemmas.{isolated_events}
use Rattle.rohc_concentrator.proofs.laws.isolated_events.Goals as goal

pub returns : goal.returns
returns c = isolated_events

use Rattle.rohc_concentrator.proofs.TraceLemmas.{no_trace}
use Rattle.rohc_concentrator.proofs.laws.no_trace.Goals as goal

pub returns : goal.returns
returns c = no_trace

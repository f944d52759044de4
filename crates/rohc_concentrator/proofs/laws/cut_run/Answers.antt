use Rattle.rohc_concentrator.proofs.CutLemmas.{cut_run}
use Rattle.rohc_concentrator.proofs.laws.cut_run.Goals as goal

pub returns : goal.returns
returns c = cut_run

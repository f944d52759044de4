use Rattle.rohc_concentrator.proofs.OwnLemmas.{cut_calls}
use Rattle.rohc_concentrator.proofs.laws.cut_calls.Goals as goal

pub returns : goal.returns
returns c = cut_calls

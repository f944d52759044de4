use Rattle.rohc_plan.proofs.SplitLemmas.{one_least}
use Rattle.rohc_plan.proofs.laws.one_least.Goals as goal

pub returns : goal.returns
returns c = one_least

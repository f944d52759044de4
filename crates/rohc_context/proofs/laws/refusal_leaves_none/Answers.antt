use Rattle.rohc_context.proofs.StepLaws.{leaves_none}
use Rattle.rohc_context.proofs.laws.refusal_leaves_none.Goals as goal

pub returns : goal.returns
returns c = leaves_none

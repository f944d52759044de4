use Rattle.rohc_context.proofs.StepLaws.{keeps_refused}
use Rattle.rohc_context.proofs.laws.refusal_changes_nothing.Goals as goal

pub returns : goal.returns
returns c = keeps_refused

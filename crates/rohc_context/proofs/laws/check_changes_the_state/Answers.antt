use Rattle.rohc_context.proofs.StepLaws.{checks_change}
use Rattle.rohc_context.proofs.laws.check_changes_the_state.Goals as goal

pub returns : goal.returns
returns c = checks_change

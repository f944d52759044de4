use Rattle.rohc_context.proofs.StepLaws.{never_poor}
use Rattle.rohc_context.proofs.laws.never_poor.Goals as goal

pub returns : goal.returns
returns c = never_poor

use Rattle.rohc_context.proofs.StepLaws.{comes_to_one}
use Rattle.rohc_context.proofs.laws.one_verdict.Goals as goal

pub returns : goal.returns
returns c = comes_to_one

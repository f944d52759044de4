use Rattle.rohc_context.proofs.StepLaws.{keeps_good}
use Rattle.rohc_context.proofs.laws.kept_record.Goals as goal

pub returns : goal.returns
returns c = keeps_good

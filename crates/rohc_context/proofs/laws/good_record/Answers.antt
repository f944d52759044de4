use Rattle.rohc_context.proofs.StepLaws.{leaves_good}
use Rattle.rohc_context.proofs.laws.good_record.Goals as goal

pub returns : goal.returns
returns c = leaves_good

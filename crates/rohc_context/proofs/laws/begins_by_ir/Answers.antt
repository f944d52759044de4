use Rattle.rohc_context.proofs.StepLaws.{begins_by_ir}
use Rattle.rohc_context.proofs.laws.begins_by_ir.Goals as goal

pub returns : goal.returns
returns c = begins_by_ir

use Rattle.rohc_context.proofs.StepLaws.{takes_plain_ir}
use Rattle.rohc_context.proofs.laws.plain_ir_delivered.Goals as goal

pub returns : goal.returns
returns c = takes_plain_ir

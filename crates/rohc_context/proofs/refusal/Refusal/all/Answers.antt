use Rattle.rohc_context.proofs.RefusalTable.{stand_at_numbers}
use Rattle.rohc_context.proofs.refusal.Refusal.all.Goals as goal

pub returns : goal.returns
returns c = stand_at_numbers

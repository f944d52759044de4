use Rattle.std.proofs.Common.{rules}
use Rattle.rohc_context.proofs.fault.Fault.refusal.Goals as goal

pub returns-in-Unfit : goal.returns-in-Unfit
returns-in-Unfit c = search rules

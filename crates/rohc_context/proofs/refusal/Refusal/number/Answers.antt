use Rattle.std.proofs.Common.{rules}
use Rattle.rohc_context.proofs.refusal.Refusal.number.Goals as goal

pub returns-clause-number : goal.returns-clause-number
returns-clause-number c = search rules

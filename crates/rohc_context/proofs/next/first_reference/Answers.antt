use Rattle.std.proofs.Common.{rules}
use Rattle.rohc_context.proofs.Registers.{kept_first}
use Rattle.rohc_context.proofs.next.first_reference.Goals as goal

pub returns-clause-kept : goal.returns-clause-kept
returns-clause-kept c = λ fixed good are. kept_first fixed c.args.moving.now c.args.saved good are

pub returns-clause-reference : goal.returns-clause-reference
returns-clause-reference c = search rules

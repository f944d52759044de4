use Rattle.std.proofs.Common.{rules}
use Rattle.rohc_context.proofs.failures.sn_of.Goals as goal

pub returns-in-None : goal.returns-in-None
returns-in-None c = search rules

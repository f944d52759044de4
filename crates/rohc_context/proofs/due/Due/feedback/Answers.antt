use Rattle.std.proofs.Common.{rules}
use Rattle.rohc_context.proofs.due.Due.feedback.Goals as goal

pub returns-in-U : goal.returns-in-U
returns-in-U c = search rules

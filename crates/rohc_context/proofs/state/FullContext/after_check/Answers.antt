use Rattle.std.proofs.Common.{rules}
use Rattle.std.proofs.Common.{tests}
use Rattle.rohc_context.proofs.state.FullContext.after_check.Goals as goal

pub returns-then-is_filled : goal.returns-then-is_filled
returns-then-is_filled c = let h = c.if-is_filled.ensures in search (tests, rules)

pub returns : goal.returns
returns c = let h = c.if-is_filled.ensures in search (tests, rules)

use Rattle.std.proofs.Common.{rules}
use Rattle.rohc_context.proofs.state.State.after_low_state.Goals as goal

pub returns-in-Static : goal.returns-in-Static
returns-in-Static c = rw c.in-Static.is (c.after_low_state.ensures c.args.moment)

pub returns-then-saturating_sub-from : goal.returns-then-saturating_sub-from
returns-then-saturating_sub-from c = search rules

pub returns-else-saturating_sub-from : goal.returns-else-saturating_sub-from
returns-else-saturating_sub-from c = search rules

use Rattle.rohc_context.specs.Record.{record_of}
use Rattle.std.proofs.Common.{rules}
use Rattle.std.proofs.Common.{tests}
use Rattle.rohc_context.proofs.record.Context.counts.Goals as goal

pub returns-then-idle_ms-eq0 : goal.returns-then-idle_ms-eq0
unfolding record_of
returns-then-idle_ms-eq0 c = search (tests, rules)

pub returns-else-idle_ms-eq0 : goal.returns-else-idle_ms-eq0
unfolding record_of
returns-else-idle_ms-eq0 c = search (tests, rules)

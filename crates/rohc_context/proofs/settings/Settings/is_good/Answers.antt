use Rattle.std.proofs.Common.{rules}
use Rattle.std.proofs.Common.{tests}
use Rattle.rohc_context.proofs.settings.Settings.is_good.Goals as goal

pub returns-then-self-le3600000 : goal.returns-then-self-le3600000
returns-then-self-le3600000 c = search (tests, rules)

pub returns-else-self-le3600000 : goal.returns-else-self-le3600000
returns-else-self-le3600000 c = search (tests, rules)

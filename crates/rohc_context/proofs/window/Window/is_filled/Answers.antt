use Rattle.rohc_context.specs.Window.{is_filled}
use Rattle.std.proofs.Common.{rules}
use Rattle.std.proofs.Common.{tests}
use Rattle.rohc_context.proofs.window.Window.is_filled.Goals as goal

pub returns : goal.returns
unfolding is_filled
returns c = search (tests, rules)

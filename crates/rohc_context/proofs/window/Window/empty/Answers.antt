use Rattle.std.proofs.Common.{refl}
use Rattle.rohc_checks.specs.Division.{bits}
use Rattle.rohc_context.specs.Window.{outcomes}
use Rattle.rohc_context.proofs.window.Window.empty.Goals as goal

pub returns-clause-none : goal.returns-clause-none
unfolding outcomes bits
returns-clause-none c = refl

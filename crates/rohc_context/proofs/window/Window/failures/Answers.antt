use Rattle.std.proofs.Common.{◌≢◌, arith}
use Rattle.rohc_context.specs.Window.{outcomes}
use Rattle.rohc_context.proofs.WindowLemmas.{failures_all, failures_low}
use Rattle.rohc_context.proofs.window.Window.failures.Goals as goal
use Rattle.rohc_context.proofs.window.Window.failures.Goals.{then-n-eq64, else-n-eq64}

pub returns : goal.returns
unfolding outcomes
returns c = elim c.if-n-eq64.branch [ then-n-eq64 w ↦ failures_all c.args.n c.args.self.length c.args.self.word c.if-n-eq64.newest c.args.self.few c.args.self.none_above w.if-n-eq64.true w.newest-is | else-n-eq64 w ↦ failures_low c.args.n c.args.self.length c.args.self.word c.if-n-eq64.newest c.args.self.none_above (let ne : c.args.n ≢ 64 = w.if-n-eq64.false in omega (arith, c.requires)) w.newest-is ]

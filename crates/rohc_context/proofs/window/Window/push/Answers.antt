use Rattle.std.specs.Prelude.{◌+◌}
use Rattle.rohc_context.specs.Window.{and_outcome, outcomes}
use Rattle.rohc_context.proofs.WindowLemmas.{pushed, pushed_fits, longer}
use Rattle.rohc_context.proofs.window.Window.push.Goals as goal

pub invariant_of-self-clause-none_above : goal.invariant_of-self-clause-none_above
invariant_of-self-clause-none_above c =
    pushed_fits c.args.self.now.length c.args.self.now.word c.from.result (c.args.self.now.length + c.from-2.result) c.args.failure c.args.self.now.few c.args.self.now.none_above c.from.ensures (longer c.args.self.now.length c.from-2.result c.args.self.now.few c.from-2.ensures)

pub returns : goal.returns
unfolding outcomes and_outcome
returns c = pushed c.args.self.now.length c.args.self.now.word c.from.result (c.args.self.now.length + c.from-2.result) c.args.failure c.args.self.now.few c.args.self.now.none_above c.from.ensures (longer c.args.self.now.length c.from-2.result c.args.self.now.few c.from-2.ensures)

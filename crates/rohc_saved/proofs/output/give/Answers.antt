use Rattle.std.proofs.Common.{arith}
use Rattle.rohc_saved.proofs.OutputLemmas.{appends_front}
use Rattle.rohc_saved.proofs.output.give.Goals as goal

pub loop-at-preserved : goal.loop-at-preserved
loop-at-preserved g c = record {
  within = omega (arith, c.in-Ok.ensures.bound);
  taken = appends_front _ _ _ c.args.text.now c.loop-at.at c.in-Ok.count c.loop-at.invariant.taken c.in-Ok.ensures.bytes;
}

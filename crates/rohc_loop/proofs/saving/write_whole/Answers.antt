use Rattle.std.proofs.Common.{length-drop, ap, length, ℕ, List, arith}
use Rattle.std.specs.Prelude.{Ok, Err}
use Rattle.rohc_loop.proofs.AskLemmas.{positive}
use Rattle.rohc_loop.proofs.WriteLemmas.{offered, told_rest, takes_on, fails_for, fails_with_none}
use Rattle.rohc_loop.proofs.saving.write_whole.Goals as goal

pub returns-in-Ok-eq0 : goal.returns-in-Ok-eq0
returns-in-Ok-eq0 g c =
    fails_with_none _ _ _ _ _ c.in-Ok-eq0.field-0 c.in-Ok-eq0.field-0-test c.loop-at.invariant.taken
    (told_rest _ _ c.args.octets.now c.loop-at.at (Ok c.in-Ok-eq0.field-0) c.in-Ok-eq0.ensures.told)

pub returns-in-Err : goal.returns-in-Err
returns-in-Err g c =
    fails_for _ _ _ _ _ c.in-Err.trouble c.loop-at.invariant.taken
    (told_rest _ _ c.args.octets.now c.loop-at.at (Err c.in-Err.trouble) c.in-Err.ensures.told)

pub loop-at-preserved : goal.loop-at-preserved
loop-at-preserved g c = record {
  within = omega (
    arith,
    c.in-Ok.ensures.within,
    ap (λ (l : List ℕ). length l) (offered c.args.octets.now c.loop-at.at),
    length-drop c.loop-at.at c.args.octets.now,
    c.loop-at.invariant.within,
  );
  taken = takes_on _ _ _ _ _ c.in-Ok.size c.loop-at.invariant.taken
      (told_rest _ _ c.args.octets.now c.loop-at.at (Ok c.in-Ok.size) c.in-Ok.ensures.told)
      (positive c.in-Ok.size c.in-Ok.size-test.1);
}

use Rattle.std.proofs.Common.{arith, ℤ, ◌^◌, ◌<◌, ◌≤◌, ◌∙◌, ap}
use Rattle.std.proofs.lemmas.Int.{ints}
use Rattle.std.proofs.Math.Nat.{pow-le-pow_right}
use Rattle.rohc_lsb.specs.Interval.{modulo}
use Rattle.rohc_lsb.proofs.Reach.{p_of_sn_below}
use Rattle.rohc_lsb.proofs.Meant.{meant_as}
use Rattle.rohc_lsb.proofs.sequence.sn_value.Goals as goal

pub returns : goal.returns
returns c =
    let size : 2 ^ c.args.bits.count ≤ 2 ^ 16 = pow-le-pow_right {n = 2} (omega arith) c.requires.narrow in
    let below : c.sn_shift.result < 2 ^ c.args.bits.count = rw c.sn_shift.ensures (p_of_sn_below c.args.bits.count c.requires.some) in (
      rw (← c.sn_shift.ensures, ← c.from.ensures)
          (meant_as _ _ _ _ _ c.steps_meant.ensures.meant (omega (arith, ints))),
      c.remainder.ensures ∙ ap (λ (v : ℤ). modulo v (2 ^ 16)) (omega (arith, ints)),
    )

pub overflow_cast-result-2 : goal.overflow_cast-result-2
overflow_cast-result-2 c =
    let size : 2 ^ c.args.bits.count ≤ 2 ^ 16 = pow-le-pow_right {n = 2} (omega arith) c.requires.narrow in
    let below : c.sn_shift.result < 2 ^ c.args.bits.count = rw c.sn_shift.ensures (p_of_sn_below c.args.bits.count c.requires.some) in
    let lies = c.steps_meant.ensures.meant in
    omega (arith, ints, lies.least, lies.greatest)

use Rattle.std.proofs.Common.{◌≡◌, ◌+◌, ◌*◌, if◌then◌else◌, refl, arith}
use Rattle.rohc_bits.specs.Bits.{number}
use Rattle.rohc_explain.proofs.BitLemmas.{one_more}
use Rattle.rohc_explain.proofs.bits.number_at.Goals as goal

pub loop-k-init : goal.loop-k-init
unfolding number
loop-k-init c = refl

pub loop-k-preserved : goal.loop-k-preserved
loop-k-preserved c =
    let place : c.in_ok-checked_add.field-0 ≡ c.args.first + c.loop-k.k = grind (arith, c.in_ok-checked_add.ensures, c.from.ensures) in
    let value : c.in_ok-value.value ≡ c.loop-k.value * 2 + (if c.in_ok-bit.bit then 1 else 0) =
    grind (arith, c.in_ok-value.ensures, c.in_ok-checked_mul.ensures, c.from-in-loop-k.ensures) in
    one_more c.args.octets.now c.args.first c.loop-k.k c.in_ok-checked_add.field-0 c.in_ok-bit.bit c.loop-k.value c.in_ok-value.value place
    c.in_ok-bit.ensures.bit c.in_ok-bit.ensures.within c.loop-k.invariant value

use Rattle.std.proofs.Common.{◌≡◌, ℕ, ◌*◌, ◌^◌, ◌%◌, ◌∙◌, ap, arith, w64}
use Rattle.std.proofs.lemmas.Int.{to_z-of_z}
use Rattle.std.proofs.Math.Nat.{mod-eq_of_lt, one-mul}
use Rattle.std.proofs.Math.Pow.{pow_mono}
use Rattle.std.specs.Int.{cast_unsigned}
use Rattle.rohc_lsb.proofs.Residues.{remainder_of_bits}
use Rattle.rohc_lsb.proofs.interval.remainder.Goals as goal

pub returns : goal.returns
returns c =
    let width = c.args.width in
    let bits = c.cast_unsigned.ensures ∙ ap (cast_unsigned w64) (to_z-of_z w64 c.args.value c.ranges.value) in
    let whole : (1 * 2 ^ width) % 2 ^ 64 ≡ 2 ^ width = mod-eq_of_lt (omega (arith, pow_mono c.requires)) ∙ one-mul (2 ^ width) in
    ap (λ (m : ℕ). c.cast_unsigned.result % m) whole ∙ ap (λ (n : ℕ). n % 2 ^ width) bits
    ∙ remainder_of_bits c.args.value width c.ranges.value (omega (arith, c.requires))

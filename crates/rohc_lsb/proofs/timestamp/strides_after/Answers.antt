use Rattle.std.proofs.Common.{◌≡◌, ◌^◌, ◌∙◌, ap, sym, arith, ℤ, w64}
use Rattle.std.proofs.lemmas.Int.{to_z-of_z}
use Rattle.rohc_lsb.specs.Interval.{modulo}
use Rattle.rohc_lsb.proofs.Strides.{strides_modulo}
use Rattle.rohc_lsb.proofs.timestamp.strides_after.Goals as goal

pub returns : goal.returns
returns c =
    let low : c.remainder.result ≡ modulo c.args.count (2 ^ 32) = c.remainder.ensures ∙ ap (λ (v : ℤ). modulo v (2 ^ 32)) (to_z-of_z w64 c.args.count c.ranges.count) in
    rw low (sym (strides_modulo c.args.start c.args.stride (2 ^ 32) c.args.count (omega arith)))

use Rattle.std.proofs.Common.{◌≡◌, ℕ, suc, ◌+◌, ◌*◌, ◌%◌, ◌<◌, ℤ, pos, negsuc, ◌+ℤ◌, ◌*ℤ◌, ap, ◌∙◌, sym, arith}
use Rattle.std.proofs.lemmas.Int.{ints}
use Rattle.std.proofs.lemmas.Nat.{mul-mod_first}
use Rattle.std.proofs.Math.Nat.{add-mod-mod}
use Rattle.rohc_lsb.specs.Interval.{modulo}
use Rattle.rohc_lsb.proofs.Residues.{modulo_is, raised}

-- a count raised by multiples of m raises the sum by multiples of m
raised_product : (start stride m : ℕ) (v : ℤ) (q n : ℕ) → v +ℤ pos (q * m) ≡ pos n →
    (pos start +ℤ v *ℤ pos stride) +ℤ pos (q * stride * m) ≡ pos (start + n * stride)
raised_product start stride m (pos a) q n e =
    let e' : a + q * m ≡ n = omega (arith, ints) in
    let f : (a + q * m) * stride ≡ n * stride = ap (λ x. x * stride) e' in
    omega (arith, ints)
raised_product start stride m (negsuc a) q n e =
    let e' : q * m ≡ n + suc a = omega (arith, ints) in
    let f : q * m * stride ≡ (n + suc a) * stride = ap (λ x. x * stride) e' in
    omega (arith, ints)

-- strides counted in whole numbers, and modulo m
pub strides_modulo : (start stride m : ℕ) (v : ℤ) → 0 < m →
    modulo (pos start +ℤ v *ℤ pos stride) m ≡ (start + (modulo v m * stride) % m) % m
strides_modulo start stride m v some =
    let (q, n, e) = raised v m some in
    modulo_is (pos start +ℤ v *ℤ pos stride) m (start + n * stride) (q * stride) some (raised_product start stride m v q n e)
    ∙ sym (add-mod-mod start (n * stride) m)
    ∙ ap (λ x. (start + x) % m) (sym (mul-mod_first n stride m))
    ∙ ap (λ x. (start + (x * stride) % m) % m) (sym (modulo_is v m n q some e))

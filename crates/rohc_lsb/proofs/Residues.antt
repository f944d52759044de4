use Rattle.std.proofs.Common.{◌≡◌, ℕ, suc, ◌+◌, ◌-◌, ◌*◌, ◌/◌, ◌%◌, ◌<◌, ◌≤◌, ℤ, pos, negsuc, ◌+ℤ◌, refl, sym, ap, ◌∙◌, arith}
use Rattle.std.proofs.lemmas.Nat.{mod-mul-add, mod_below, pow-add, pow_pos}
use Rattle.std.proofs.Math.Nat.{mod-add-mod, div-add-mod, mul-le-mul_left}
use Rattle.std.proofs.lemmas.Int.{ints, int_rem_euclid_is}
use Rattle.std.specs.Prelude.{◌^◌, unsigned_abs}
use Rattle.std.specs.Int.{cast_unsigned, w64}
use Rattle.std.specs.Int.RustNames.{FitsSigned}
use Rattle.rohc_lsb.specs.Interval.{modulo}

-- v modulo m is that of a natural number some multiples of m above v
pub modulo_is : (v : ℤ) (m n q : ℕ) → 0 < m → v +ℤ pos (q * m) ≡ pos n → modulo v m ≡ n % m
modulo_is v m n q some e = ap unsigned_abs (int_rem_euclid_is v (pos m) m q n some refl e)

-- some multiples of m above a whole number there is a natural number
pub raised : (v : ℤ) (m : ℕ) → 0 < m → (q : ℕ) × (n : ℕ) × (v +ℤ pos (q * m) ≡ pos n)
raised (pos a) m some = (0, a, omega (arith, ints))
raised (negsuc a) m some =
    let enough : suc a * 1 ≤ suc a * m = mul-le-mul_left (suc a) some in
    (suc a, suc a * m - suc a, omega (arith, ints))

-- how far a number is above l, read off its remainder
distance_back : (l m d : ℕ) → d < m → ((l + d) % m + (m - l % m)) % m ≡ d
distance_back l m d below =
    let over : l % m < m = mod_below l m (omega arith) in
    let e : l + d + (m - l % m) ≡ (l / m + 1) * m + d = omega (arith, div-add-mod l m) in
    mod-add-mod (l + d) m (m - l % m) ∙ ap (λ x. x % m) e ∙ mod-mul-add (l / m + 1) m d below

-- less than m above l, each remainder is met once
pub remainder_once : (l m d e : ℕ) → d < m → e < m → (l + d) % m ≡ (l + e) % m → d ≡ e
remainder_once l m d e d_below e_below same =
    sym (distance_back l m d d_below) ∙ ap (λ r. (r + (m - l % m)) % m) same ∙ distance_back l m e e_below

-- the 64 bits of a whole number have the same remainder by a power of two
pub remainder_of_bits : (v : ℤ) (w : ℕ) → FitsSigned w64 v → w ≤ 64 → cast_unsigned w64 v % 2 ^ w ≡ modulo v (2 ^ w)
remainder_of_bits (pos a) w range few = sym (modulo_is (pos a) (2 ^ w) a 0 (pow_pos w) (omega (arith, ints)))
remainder_of_bits (negsuc a) w range few =
    let split : 64 - w + w ≡ 64 = omega arith in
    let whole : 2 ^ (64 - w) * 2 ^ w ≡ 2 ^ 64 = sym (pow-add 2 (64 - w) w) ∙ ap (λ k. 2 ^ k) split in
    sym (modulo_is (negsuc a) (2 ^ w) (2 ^ 64 - suc a) (2 ^ (64 - w)) (pow_pos w)
    (omega (arith, ints, whole, range.sfits)))

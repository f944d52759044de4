-- The bits of two numbers, one after the other, and the last of them.
use Rattle.std.proofs.Common.{◌≡◌, ◌==◌, ℕ, zero, suc, ◌+◌, ◌-◌, ◌*◌, ◌/◌, ◌%◌, ◌^◌, ◌<◌, ◌≤◌, Bool, List, ◌∷◌, ◌++◌, length, drop, min, ⊎_elim, refl, sym, ap, ◌∙◌, arith}
use Rattle.std.proofs.lemmas.Nat.{mod-pow-add, mod_below, div-mul-add, mod-mul-add}
use Rattle.std.proofs.lemmas.Bool.{cases_lt}
use Rattle.std.proofs.Math.Nat.{min-eq_left, min-eq_right, mod-eq_of_lt}
use Rattle.std.proofs.Math.Pow.{pow_mono, pow_pos}
use Rattle.std.proofs.Math.Seq.{drop-append_seam}
use Rattle.rohc_bits.specs.Bits.{bits, last_of}
use Rattle.rohc_bits.proofs.BitLists.{length-bits, bits-split}

-- the bits of a number are those of its remainder
bits-mod : (k n m : ℕ) → n % 2 ^ k ≡ m % 2 ^ k → bits k n ≡ bits k m
unfolding bits
bits-mod zero n m same = refl
bits-mod (suc k) n m same =
    let more : 1 + k ≡ suc k = omega arith in
    let parts : n / 2 ^ k % 2 * 2 ^ k + n % 2 ^ k ≡ m / 2 ^ k % 2 * 2 ^ k + m % 2 ^ k = sym (mod-pow-add n 1 k) ∙ ap (λ j. n % 2 ^ j) more ∙ same ∙ ap (λ j. m % 2 ^ j) (sym more) ∙ mod-pow-add m 1 k in
    let first : n / 2 ^ k % 2 ≡ m / 2 ^ k % 2 = sym (div-mul-add (n / 2 ^ k % 2) (2 ^ k) (n % 2 ^ k) (mod_below n (2 ^ k) (pow_pos k))) ∙ ap (λ x. x / 2 ^ k) parts ∙ div-mul-add (m / 2 ^ k % 2) (2 ^ k) (m % 2 ^ k) (mod_below m (2 ^ k) (pow_pos k)) in
    let rest : n % 2 ^ k ≡ m % 2 ^ k = sym (mod-mul-add (n / 2 ^ k % 2) (2 ^ k) (n % 2 ^ k) (mod_below n (2 ^ k) (pow_pos k))) ∙ ap (λ x. x % 2 ^ k) parts ∙ mod-mul-add (m / 2 ^ k % 2) (2 ^ k) (m % 2 ^ k) (mod_below m (2 ^ k) (pow_pos k)) in
    rw (first, bits-mod k n m rest) refl

-- the bits of a value of m bits, and then those of a value of k bits
joined : (m k high low : ℕ) → low < 2 ^ k → bits m high ++ bits k low ≡ bits (m + k) (high * 2 ^ k + low)
joined m k high low below =
    let rest : bits k (high * 2 ^ k + low) ≡ bits k low = bits-mod k (high * 2 ^ k + low) low (mod-mul-add high (2 ^ k) low below ∙ sym (mod-eq_of_lt below)) in
    sym (bits-split m k (high * 2 ^ k + low) ∙ rw (div-mul-add high (2 ^ k) low below, rest) refl)

-- the last 32 of a number's bits
last : (k n : ℕ) → n < 2 ^ k → last_of 32 (bits k n) ≡ bits (min k 32) (n % 2 ^ 32)
last k n below = ⊎_elim
    (λ (wide : 32 < k).
    let whole : k - 32 + 32 ≡ k = omega (arith, wide) in
    let split : bits k n ≡ bits (k - 32) (n / 2 ^ 32) ++ bits 32 n = ap (λ j. bits j n) (sym whole) ∙ bits-split (k - 32) 32 n in
    let front : length (bits k n) - 32 ≡ length (bits (k - 32) (n / 2 ^ 32)) = ap (λ j. j - 32) (length-bits k n) ∙ sym (length-bits (k - 32) (n / 2 ^ 32)) in
    let low : bits 32 n ≡ bits 32 (n % 2 ^ 32) = bits-mod 32 n (n % 2 ^ 32) (sym (mod-eq_of_lt (mod_below n (2 ^ 32) (omega arith)))) in
    rw (front, split, drop-append_seam (bits (k - 32) (n / 2 ^ 32)) (bits 32 n), min-eq_right {n = 32} {m = k} (omega (arith, wide))) low)
    (λ (narrow : k ≤ 32).
    let none : length (bits k n) - 32 ≡ 0 = omega (arith, length-bits k n, narrow) in
    rw (none, min-eq_left {n = k} {m = 32} narrow, mod-eq_of_lt {n = n} {m = 2 ^ 32} (omega (arith, below, pow_mono narrow))) refl)
    (cases_lt 32 k)

-- a value that is these two, kept to the low 32 bits
pub appended : (value count high m low k : ℕ) → value ≡ (high * 2 ^ k + low) % 2 ^ 32 → count ≡ min (m + k) 32 → high * 2 ^ k + low < 2 ^ (m + k) → low < 2 ^ k
    → bits count value ≡ last_of 32 (bits m high ++ bits k low)
appended value count high m low k is counted whole below =
    rw (is, counted, joined m k high low below) (sym (last (m + k) (high * 2 ^ k + low) whole))

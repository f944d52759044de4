-- Bits of numbers and of texts, and the numbers that they spell.
use Rattle.std.proofs.Common.{◌≡◌, ◌==◌, ℕ, zero, suc, ◌+◌, ◌*◌, ◌/◌, ◌%◌, ◌^◌, ◌<◌, Bool, true, false, if◌then◌else◌, List, [], ◌∷◌, ◌++◌, length, refl, sym, ap, ◌∙◌, arith}
use Rattle.std.proofs.lemmas.List.{length-append}
use Rattle.std.proofs.lemmas.Nat.{mod-pow-add, pow-add, mod_below, shr-shr}
use Rattle.std.proofs.Math.Nat.{pow-suc}
use Rattle.rohc_bits.specs.Bits.{bits, number, bits_of}

pub length-bits : (k n : ℕ) → length (bits k n) ≡ k
unfolding bits
length-bits zero n = refl
length-bits (suc k) n = ap suc (length-bits k n)

-- one bit in its place
by_remainder : (size bit : ℕ) → bit < 2 → (if bit == 1 then size else 0) ≡ bit * size
by_remainder size zero below = let e : 0 ≡ 0 * size = omega arith in e
by_remainder size (suc zero) below = let e : size ≡ 1 * size = omega arith in e
by_remainder size (suc (suc bit)) below = absurd (omega arith)

placed : (n size : ℕ) → (if n % 2 == 1 then size else 0) ≡ n % 2 * size
placed n size = by_remainder size (n % 2) (mod_below n 2 (omega arith))

pub number-bits : (k n : ℕ) → number (bits k n) ≡ n % 2 ^ k
unfolding bits number
number-bits zero n = omega arith
number-bits (suc k) n =
    let high : (if n / 2 ^ k % 2 == 1 then 2 ^ length (bits k n) else 0) ≡ n / 2 ^ k % 2 * 2 ^ length (bits k n) = placed (n / 2 ^ k) (2 ^ length (bits k n)) in
    let more : 1 + k ≡ suc k = omega arith in
    rw (high, length-bits k n, number-bits k n) (sym (mod-pow-add n 1 k) ∙ ap (λ j. n % 2 ^ j) more)

pub number-below : (bs : List Bool) → number bs < 2 ^ length bs
unfolding number
number-below [] = omega arith
number-below (true ∷ bs) = omega (arith, number-below bs, pow-suc 2 (length bs))
number-below (false ∷ bs) = omega (arith, number-below bs, pow-suc 2 (length bs))

pub number-append : (a b : List Bool) → number (a ++ b) ≡ number a * 2 ^ length b + number b
unfolding number
number-append [] b = let e : number b ≡ 0 * 2 ^ length b + number b = omega arith in e
number-append (false ∷ a) b = omega (arith, number-append a b)
number-append (true ∷ a) b =
    let size : 2 ^ length (a ++ b) ≡ 2 ^ length a * 2 ^ length b = ap (λ n. 2 ^ n) (length-append a b) ∙ pow-add 2 (length a) (length b) in
    rw (size, number-append a b) (omega arith)

pub length-bits_of : (text : List ℕ) → length (bits_of text) ≡ 8 * length text
length-bits_of [] = refl
length-bits_of (a ∷ text) = length-append (bits 8 a) (bits_of text) ∙ rw (length-bits 8 a, length-bits_of text) (omega arith)

-- the low bits of an octet, and the octets behind it
pub number-octets : (k a : ℕ) (text : List ℕ) → number (bits k a ++ bits_of text) ≡ a % 2 ^ k * 2 ^ (8 * length text) + number (bits_of text)
number-octets k a text = number-append (bits k a) (bits_of text) ∙ rw (number-bits k a, length-bits_of text) refl

-- the bits of a number are those before the last k, and these
pub bits-split : (j k n : ℕ) → bits (j + k) n ≡ bits j (n / 2 ^ k) ++ bits k n
unfolding bits
bits-split zero k n =
    let none : 0 + k ≡ k = omega arith in
    rw none refl
bits-split (suc j) k n =
    let more : suc j + k ≡ suc (j + k) = omega arith in
    let first : n / 2 ^ (j + k) ≡ n / 2 ^ k / 2 ^ j = ap (λ i. n / 2 ^ i) (omega arith) ∙ sym (shr-shr n k j) in
    rw more (rw (first, bits-split j k n) refl)

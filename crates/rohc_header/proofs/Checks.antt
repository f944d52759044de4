-- The checks of a header's ranges in turn are those of its static and of its dynamic octets.
use Rattle.std.proofs.Common.{◌≡◌, ℕ, zero, suc, ◌+◌, ◌-◌, ◌^◌, ◌<◌, ◌≤◌, Bool, List, [], ◌∷◌, ◌++◌, length, get_or, take, drop, bit_and, bit_xor, refl, ap, ◌∙◌, arith}
use Rattle.rohc_checks.specs.Division.{check, degree, poly3, poly7}
use Rattle.rohc_header.specs.Check.{all_ones, static_octets, dynamic_octets}
use Rattle.rohc_header.specs.declared.polynomial.Polynomial.{Polynomial}
use Rattle.rohc_header.specs.declared.polynomial.Polynomial.TheVariants.{Three, Seven}
use Rattle.rohc_header.specs.Polynomial.{coefficients}
use Rattle.rohc_header.proofs.Split.{static_ranges, dynamic_ranges}
use Rattle.rohc_header.proofs.SevenOctets.{HasPeriod, xored, AreSmall, all_small, folded, folded_longer, period3, period7}
use Rattle.std.proofs.Math.Seq.{drop-cons}
use Rattle.std.proofs.lemmas.Nat.{and_le_r, pow_pos}
use Rattle.std.specs.Int.Bits.{xor_zero_l}

pub ones3 : all_ones poly3 ≡ 7
unfolding poly3
ones3 = refl

pub ones7 : all_ones poly7 ≡ 127
unfolding poly7
ones7 = refl

-- a register under its mask
pub masked : (k reg mask : ℕ) → mask ≡ 2 ^ k - 1 → bit_and reg mask < 2 ^ k
masked k reg mask e = omega (arith, and_le_r reg mask, pow_pos k)

-- octets from a place on, one by one
placed : (count from : ℕ) (octets : List ℕ) → List ℕ
placed zero from octets = []
placed (suc n) from octets = get_or octets from 0 ∷ placed n (suc from) octets

placed_are : (count from : ℕ) (octets : List ℕ) → from + count ≤ length octets → take count (drop from octets) ≡ placed count from octets
unfolding placed
placed_are zero from octets inside = refl
placed_are (suc n) from octets inside =
    ap (take (suc n)) (drop-cons octets from 0 (omega arith)) ∙ ap (λ rest. get_or octets from 0 ∷ rest) (placed_are n (suc from) octets (omega arith))

-- the dynamic octets, one by one
pub dynamic_are : (octets : List ℕ) → length octets ≡ 40
    → let at : ℕ → ℕ = λ k. get_or octets k 0 in
    dynamic_octets octets ≡ at 2 ∷ at 3 ∷ at 4 ∷ at 5 ∷ at 10 ∷ at 11 ∷ at 24 ∷ at 25 ∷ at 26 ∷ at 27 ∷ at 29 ∷ at 30 ∷ at 31 ∷ at 32 ∷ at 33 ∷ at 34 ∷ at 35 ∷ []
unfolding placed
dynamic_are octets forty =
    dynamic_ranges octets ∙ rw (placed_are 4 2 octets (omega arith), placed_are 2 10 octets (omega arith), placed_are 4 24 octets (omega arith), placed_are 7 29 octets (omega arith)) refl

-- the dynamic octets in sevens from their end, added without carry
pub dynamic_folded : (poly : List Bool) (reg : ℕ) (octets : List ℕ) → HasPeriod poly → reg < 2 ^ degree poly → length octets ≡ 40 → ((k : ℕ) → get_or octets k 0 < 256)
    → let at : ℕ → ℕ = λ k. get_or octets k 0 in
    check poly 0 (
    bit_xor (at 5) (at 29) ∷ bit_xor (at 10) (at 30) ∷ bit_xor (at 11) (at 31) ∷ bit_xor (at 24) (at 32)
    ∷ bit_xor (bit_xor (bit_xor reg (at 2)) (at 25)) (at 33) ∷ bit_xor (bit_xor (at 3) (at 26)) (at 34) ∷ bit_xor (bit_xor (at 4) (at 27)) (at 35) ∷ []
    ) ≡ check poly reg (dynamic_octets octets)
unfolding AreSmall xored
dynamic_folded poly reg octets h low forty small =
    let at : ℕ → ℕ = λ k. get_or octets k 0 in
    let second : List ℕ = at 5 ∷ at 10 ∷ at 11 ∷ at 24 ∷ at 25 ∷ at 26 ∷ at 27 ∷ [] in
    let last : List ℕ = at 29 ∷ at 30 ∷ at 31 ∷ at 32 ∷ at 33 ∷ at 34 ∷ at 35 ∷ [] in
    let all : dynamic_octets octets ≡ at 2 ∷ at 3 ∷ at 4 ∷ second ++ last = dynamic_are octets forty in
    rw (← xor_zero_l (at 5), ← xor_zero_l (at 10), ← xor_zero_l (at 11), ← xor_zero_l (at 24), all)
    (folded poly reg (at 2) (at 3) (at 4) second last h low (small 2) (small 3) (small 4) refl refl
    (all_small second (small 5, (small 10, (small 11, (small 24, (small 25, (small 26, (small 27, tt))))))))
    (all_small last (small 29, (small 30, (small 31, (small 32, (small 33, (small 34, (small 35, tt)))))))))

-- the static octets, one by one
static_are : (octets : List ℕ) → length octets ≡ 40
    → let at : ℕ → ℕ = λ k. get_or octets k 0 in
    static_octets octets ≡ at 0 ∷ at 1 ∷ at 6 ∷ at 7 ∷ at 8 ∷ at 9 ∷ at 12 ∷ at 13 ∷ at 14 ∷ at 15 ∷ at 16 ∷ at 17 ∷ at 18 ∷ at 19 ∷ at 20 ∷ at 21 ∷ at 22 ∷ at 23 ∷ at 28 ∷ at 36 ∷ at 37 ∷ at 38 ∷ at 39 ∷ []
unfolding placed
static_are octets forty =
    static_ranges octets
    ∙ rw (placed_are 2 0 octets (omega arith), placed_are 4 6 octets (omega arith), placed_are 12 12 octets (omega arith), placed_are 1 28 octets (omega arith), placed_are 4 36 octets (omega arith)) refl

-- the static octets in sevens from their end, added without carry
pub static_folded : (poly : List Bool) (reg : ℕ) (octets : List ℕ) → HasPeriod poly → reg < 2 ^ degree poly → length octets ≡ 40 → ((k : ℕ) → get_or octets k 0 < 256)
    → let at : ℕ → ℕ = λ k. get_or octets k 0 in
    check poly 0 (
    bit_xor (bit_xor (at 6) (at 15)) (at 22) ∷ bit_xor (bit_xor (at 7) (at 16)) (at 23) ∷ bit_xor (bit_xor (at 8) (at 17)) (at 28)
    ∷ bit_xor (bit_xor (at 9) (at 18)) (at 36) ∷ bit_xor (bit_xor (at 12) (at 19)) (at 37)
    ∷ bit_xor (bit_xor (bit_xor (bit_xor reg (at 0)) (at 13)) (at 20)) (at 38) ∷ bit_xor (bit_xor (bit_xor (at 1) (at 14)) (at 21)) (at 39) ∷ []
    ) ≡ check poly reg (static_octets octets)
unfolding AreSmall xored
static_folded poly reg octets h low forty small =
    let at : ℕ → ℕ = λ k. get_or octets k 0 in
    let second : List ℕ = at 6 ∷ at 7 ∷ at 8 ∷ at 9 ∷ at 12 ∷ at 13 ∷ at 14 ∷ [] in
    let third : List ℕ = at 15 ∷ at 16 ∷ at 17 ∷ at 18 ∷ at 19 ∷ at 20 ∷ at 21 ∷ [] in
    let last : List ℕ = at 22 ∷ at 23 ∷ at 28 ∷ at 36 ∷ at 37 ∷ at 38 ∷ at 39 ∷ [] in
    let all : static_octets octets ≡ at 0 ∷ at 1 ∷ second ++ (third ++ last) = static_are octets forty in
    rw (← xor_zero_l (at 6), ← xor_zero_l (at 7), ← xor_zero_l (at 8), ← xor_zero_l (at 9), ← xor_zero_l (at 12), all)
    (folded_longer poly reg (at 0) (at 1) second third last h low (small 0) (small 1) refl refl refl
    (all_small second (small 6, (small 7, (small 8, (small 9, (small 12, (small 13, (small 14, tt))))))))
    (all_small third (small 15, (small 16, (small 17, (small 18, (small 19, (small 20, (small 21, tt))))))))
    (all_small last (small 22, (small 23, (small 28, (small 36, (small 37, (small 38, (small 39, tt)))))))))

-- for each polynomial of a header's check
pub period_of : (p : Polynomial) → HasPeriod (coefficients p)
period_of Three = period3
period_of Seven = period7

pub ones_below : (poly : List Bool) → all_ones poly < 2 ^ degree poly
ones_below poly = omega (arith, pow_pos (degree poly))

-- The Internet checksum, two octets at a time.
use Rattle.std.specs.Int.{w16, from_le_bytes, to_be_bytes}
use Rattle.std.proofs.Common.{◌≡◌, ◌==◌, ℕ, suc, ◌+◌, ◌-◌, ◌*◌, ◌/◌, ◌%◌, ◌<◌, ◌≤◌, if◌then◌else◌, List, [], ◌∷◌, length, get_or, take, take_all, drop, add-zero, zero-add, sym, ap, ◌∙◌, arith, sum}
use Rattle.std.proofs.lemmas.List.Sums.{sum_by-cons}
use Rattle.std.proofs.lemmas.Bool.Decides.{nat_tests}
use Rattle.rohc_checks.specs.Sum.{header_sum, words}

-- the header sum of the total s
complement : ℕ → ℕ
complement s = if s == 0 then 65535 else 65535 - ((s - 1) % 65535 + 1)

-- a total above 0 may be raised by 65,535 without a change
complement-add : (s : ℕ) → 0 < s → complement (s + 65535) ≡ complement s
unfolding complement
complement-add s h = grind (arith, nat_tests)

complement-small : (s : ℕ) → s < 65536 → complement s ≡ 65535 - s
unfolding complement
complement-small s h = grind (arith, nat_tests)

header_sum-cons : (first : ℕ) (others : List ℕ) → header_sum (first ∷ others) ≡ complement (first + sum others)
unfolding complement header_sum
header_sum-cons first others = ap complement (sum_by-cons (λ x. x) first others)

-- ---- turns of the loop

pub header_sum-zero : (others : List ℕ) → header_sum (0 ∷ others) ≡ header_sum others
unfolding complement header_sum
header_sum-zero others = header_sum-cons 0 others ∙ ap complement (zero-add (sum others))

pub header_sum-one : (total : ℕ) → total < 65536 → header_sum (total ∷ []) ≡ 65535 - total
header_sum-one total h = header_sum-cons total [] ∙ ap complement (add-zero total) ∙ complement-small total h

-- two words and their sum, where nothing is carried and where the carry comes round
pub header_sum-plain : (first second total : ℕ) (others : List ℕ) → total ≡ first + second → header_sum (total ∷ others) ≡ header_sum (first ∷ second ∷ others)
header_sum-plain first second total others e =
    header_sum-cons total others
    ∙ ap complement (omega (arith, sum_by-cons (λ x. x) second others))
    ∙ sym (header_sum-cons first (second ∷ others))

pub header_sum-carried : (first second total : ℕ) (others : List ℕ) → 0 < total → total + 65535 ≡ first + second → header_sum (total ∷ others) ≡ header_sum (first ∷ second ∷ others)
header_sum-carried first second total others some e =
    header_sum-cons total others
    ∙ sym (complement-add (total + sum others) (omega arith))
    ∙ ap complement (omega (arith, sum_by-cons (λ x. x) second others))
    ∙ sym (header_sum-cons first (second ∷ others))

-- one turn: the first two octets of those that are left are added
pub header_sum-turn : (left : List ℕ) (total word next : ℕ) → 2 ≤ length left → word ≡ get_or left 0 0 * 256 + get_or left 1 0
    → ((others : List ℕ) → header_sum (next ∷ others) ≡ header_sum (total ∷ word ∷ others))
    → header_sum (next ∷ words (take (length left - 2) (drop 2 left))) ≡ header_sum (total ∷ words left)
unfolding words
header_sum-turn [] total word next two e added = absurd (omega arith)
header_sum-turn (last ∷ []) total word next two e added = absurd (omega arith)
header_sum-turn (high ∷ low ∷ octets) total word next two e added =
    ap (λ all. header_sum (next ∷ words all)) (take_all (suc (suc (length octets)) - 2) octets (omega arith))
    ∙ added (words octets)
    ∙ ap (λ first. header_sum (total ∷ first ∷ words octets)) e

-- the end: an odd octet is left, or none
pub header_sum-last : (left : List ℕ) (total word next : ℕ) → length left ≡ 1 → word ≡ get_or left 0 0 * 256 + 0 → next < 65536
    → ((others : List ℕ) → header_sum (next ∷ others) ≡ header_sum (total ∷ word ∷ others))
    → 65535 - next ≡ header_sum (total ∷ words left)
unfolding words
header_sum-last [] total word next one e fits added = cc
header_sum-last (last ∷ []) total word next one e fits added =
    sym (header_sum-one next fits) ∙ added [] ∙ ap (λ first. header_sum (total ∷ first ∷ [])) (e ∙ add-zero (last * 256))
header_sum-last (high ∷ low ∷ octets) total word next one e fits added = cc

pub header_sum-end : (left : List ℕ) (total : ℕ) → length left ≡ 0 → total < 65536 → 65535 - total ≡ header_sum (total ∷ words left)
unfolding words
header_sum-end [] total none fits = sym (header_sum-one total fits)
header_sum-end (octet ∷ octets) total none fits = cc

-- The octets of what is left of a total of words with their octets exchanged, exchanged again: modulo 65,535, 256
-- times a word is the word with its octets exchanged.
pub header_sum-exchanged : (total n : ℕ) (all : List ℕ) → 0 < n → n < 65536 → n % 65535 ≡ total % 65535
    → 0 < sum all → sum all % 65535 ≡ total * 256 % 65535
    → from_le_bytes w16 (to_be_bytes w16 (65535 - n)) ≡ header_sum all
unfolding complement header_sum
header_sum-exchanged total n all some fits left words-some same =
    exchanged n fits
    ∙ sym (turned (sum all) n (n / 256) (n % 256) words-some
    some (omega arith) (omega arith) (omega arith) (omega (arith, left, same)))
  where
    exchanged : (n : ℕ) → n < 65536 → from_le_bytes w16 (to_be_bytes w16 (65535 - n)) ≡ 65535 - (n % 256 * 256 + n / 256)
    exchanged n h = omega arith

    turned : (s n high low : ℕ) → 0 < s → 0 < n → n ≡ high * 256 + low → high < 256 → low < 256 → s % 65535 ≡ n * 256 % 65535
        → complement s ≡ 65535 - (low * 256 + high)
    turned s n high low p q e one two same = grind (arith, nat_tests)

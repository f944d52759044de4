-- Both polynomials divide x^56 + 1. So over seven octets a 3-bit or a 7-bit register changes only by adding the
-- check of the octets alone, and octets may be added in groups of seven.
use Rattle.std.proofs.Common.{◌≡◌, ℕ, suc, ◌+◌, ◌*◌, ◌/◌, ◌%◌, ◌^◌, ◌<◌, ◌≤◌, Bool, true, nat_eq, List, [], ◌∷◌, ◌++◌, length, get_or, replicate, bit_xor, All, ap, sym, ◌∙◌, refl, arith}
use Rattle.std.proofs.Math.Bool.{xor}
use Rattle.std.proofs.Math.Pow.{pow_mono}
use Rattle.std.specs.Int.Bits.{xor_assoc, xor_zero_l, xor_zero_r}
use Rattle.std.proofs.lemmas.Nat.{xor_lt, xor_comm, pow_pos}
use Rattle.std.proofs.lemmas.List.{length-replicate}
use Rattle.std.proofs.lemmas.Bool.{agree_below, agree_below_at, eqb-true}
use Rattle.std.proofs.lemmas.List.Elements.{All-head, All-tail, All-nil, All-cons, All-replicate}
use Rattle.rohc_checks.specs.declared.tables.TheConstants.{CRC3, CRC7}
use Rattle.rohc_checks.specs.Division.{bits, number, poly3, poly7, degree, add_front, divided, remainder, check, table_of}
use Rattle.rohc_checks.proofs.Division.{check-append, check-lt, check-nil, check-table}

-- ---- For any polynomial whose table keeps sums, and whose registers stay over seven zero octets

-- the entry for the sum of two octets is the sum of their entries
pub keeps_sum : (table : List ℕ) (a b : ℕ) → Bool
keeps_sum table a b = nat_eq (get_or table (bit_xor a b) 0) (bit_xor (get_or table a 0) (get_or table b 0))

-- this register stays the same over seven zero octets
pub stays : (poly : List Bool) (reg : ℕ) → Bool
stays poly reg = nat_eq (check poly reg (replicate 7 0)) reg

pub record HasPeriod (poly : List Bool) : Type 0 where
  pub narrow : degree poly ≤ 8
  pub keeps : (a b : ℕ) → a < 256 → b < 256 → keeps_sum (table_of poly) a b ≡ true
  pub stays : (reg : ℕ) → reg < 2 ^ degree poly → stays poly reg ≡ true
  pub zeros : check poly 0 (replicate 4 0) ≡ 0
  pub zero : check poly 0 (0 ∷ []) ≡ 0

-- octets added without carry
unfoldable pub xored : List ℕ → List ℕ → List ℕ
xored [] ys = []
xored (x ∷ xs) [] = []
xored (x ∷ xs) (y ∷ ys) = bit_xor x y ∷ xored xs ys

pub exchanged : (a b x y : ℕ) → bit_xor (bit_xor a b) (bit_xor x y) ≡ bit_xor (bit_xor a x) (bit_xor b y)
exchanged a b x y =
    xor_assoc a b (bit_xor x y)
    ∙ ap (bit_xor a) (sym (xor_assoc b x y) ∙ ap (λ z. bit_xor z y) (xor_comm b x) ∙ xor_assoc x b y)
    ∙ sym (xor_assoc a x (bit_xor b y))

-- the check of a sum of registers and octets is the sum of the checks: for one octet, and for several
one_added : (poly : List Bool) (a b x y : ℕ) → HasPeriod poly → a < 2 ^ degree poly → b < 2 ^ degree poly → x < 256 → y < 256
    → check poly (bit_xor a b) (bit_xor x y ∷ []) ≡ bit_xor (check poly a (x ∷ [])) (check poly b (y ∷ []))
unfolding keeps_sum
one_added poly a b x y h low lower small less =
    let first : a < 256 = omega (arith, pow_mono h.narrow) in
    let second : b < 256 = omega (arith, pow_mono h.narrow) in
    sym (check-table poly (bit_xor a b) (bit_xor x y) h.narrow (xor_lt (degree poly) a b low lower) (xor_lt 8 x y small less))
    ∙ ap (λ place. get_or (table_of poly) place 0) (exchanged a b x y)
    ∙ eqb-true _ _ (h.keeps (bit_xor a x) (bit_xor b y) (xor_lt 8 a x first small) (xor_lt 8 b y second less))
    ∙ rw (check-table poly a x h.narrow low small, check-table poly b y h.narrow lower less) refl

pub added : (poly : List Bool) (a b : ℕ) (xs ys : List ℕ) → HasPeriod poly → a < 2 ^ degree poly → b < 2 ^ degree poly → length xs ≡ length ys
    → All (λ octet. octet < 256) xs → All (λ octet. octet < 256) ys → check poly (bit_xor a b) (xored xs ys) ≡ bit_xor (check poly a xs) (check poly b ys)
unfolding xored
added poly a b [] [] h low lower same small less =
    rw (check-nil poly (bit_xor a b) (xor_lt (degree poly) a b low lower), check-nil poly a low, check-nil poly b lower) refl
added poly a b [] (y ∷ ys) h low lower same small less = absurd (omega arith)
added poly a b (x ∷ xs) [] h low lower same small less = absurd (omega arith)
added poly a b (x ∷ xs) (y ∷ ys) h low lower same small less =
    sym (check-append poly (bit_xor a b) (bit_xor x y ∷ []) (xored xs ys))
    ∙ ap (λ reg. check poly reg (xored xs ys)) (one_added poly a b x y h low lower (All-head (λ octet. octet < 256) x xs small) (All-head (λ octet. octet < 256) y ys less))
    ∙ added poly (check poly a (x ∷ [])) (check poly b (y ∷ [])) xs ys h (check-lt poly a (x ∷ [])) (check-lt poly b (y ∷ [])) (omega (arith, same))
    (All-tail (λ octet. octet < 256) x xs small) (All-tail (λ octet. octet < 256) y ys less)
    ∙ rw (check-append poly a (x ∷ []) xs, check-append poly b (y ∷ []) ys) refl

zeros_added : (ys : List ℕ) → xored (replicate (length ys) 0) ys ≡ ys
unfolding xored
zeros_added [] = refl
zeros_added (y ∷ ys) = rw (xor_zero_l y, zeros_added ys) refl

length-xored : (xs ys : List ℕ) → length xs ≡ length ys → length (xored xs ys) ≡ length xs
unfolding xored
length-xored [] ys e = refl
length-xored (x ∷ xs) [] e = absurd (omega arith)
length-xored (x ∷ xs) (y ∷ ys) e = ap suc (length-xored xs ys (omega (arith, e)))

xored-small : (xs ys : List ℕ) → All (λ octet. octet < 256) xs → All (λ octet. octet < 256) ys → All (λ octet. octet < 256) (xored xs ys)
unfolding xored
xored-small [] ys small less = All-nil (λ octet. octet < 256)
xored-small (x ∷ xs) [] small less = All-nil (λ octet. octet < 256)
xored-small (x ∷ xs) (y ∷ ys) small less =
    All-cons (λ octet. octet < 256) (bit_xor x y) (xored xs ys) (xor_lt 8 x y (All-head (λ octet. octet < 256) x xs small) (All-head (λ octet. octet < 256) y ys less))
    (xored-small xs ys (All-tail (λ octet. octet < 256) x xs small) (All-tail (λ octet. octet < 256) y ys less))

-- octets one by one
unfoldable pub AreSmall : List ℕ → Type 0
AreSmall [] = Unit {0}
AreSmall (x ∷ xs) = (x < 256) × AreSmall xs

pub all_small : (xs : List ℕ) → AreSmall xs → All (λ octet. octet < 256) xs
unfolding AreSmall
all_small [] small = All-nil (λ octet. octet < 256)
all_small (x ∷ xs) small = All-cons (λ octet. octet < 256) x xs small.0 (all_small xs small.1)

-- seven zero octets change nothing
pub seven_zeros : (poly : List Bool) (reg : ℕ) → HasPeriod poly → reg < 2 ^ degree poly → check poly reg (replicate 7 0) ≡ reg
unfolding stays
seven_zeros poly reg h low = eqb-true _ _ (h.stays reg low)

pub seven_octets : (poly : List Bool) (reg : ℕ) (octets : List ℕ) → HasPeriod poly → reg < 2 ^ degree poly → length octets ≡ 7 → All (λ octet. octet < 256) octets
    → check poly reg octets ≡ bit_xor reg (check poly 0 octets)
seven_octets poly reg octets h low seven small =
    ap (λ both. check poly both octets) (sym (xor_zero_r reg))
    ∙ ap (check poly (bit_xor reg 0)) (sym (zeros_added octets))
    ∙ added poly reg 0 (replicate (length octets) 0) octets h low (omega arith) (length-replicate (length octets) 0) (All-replicate (λ octet. octet < 256) (length octets) 0 (omega arith)) small
    ∙ ap (λ first. bit_xor first (check poly 0 octets)) (ap (λ n. check poly reg (replicate n 0)) seven ∙ seven_zeros poly reg h low)

-- the register may stand under the first of octets that come behind zeros
leading : (poly : List Bool) (reg p : ℕ) (ps : List ℕ) → HasPeriod poly → reg < 2 ^ degree poly → p < 256
    → check poly 0 (0 ∷ 0 ∷ 0 ∷ 0 ∷ bit_xor reg p ∷ ps) ≡ check poly reg (p ∷ ps)
leading poly reg p ps h low small =
    let wide : reg < 256 = omega (arith, pow_mono h.narrow) in
    sym (check-append poly 0 (replicate 4 0) (bit_xor reg p ∷ ps))
    ∙ ap (λ zero. check poly zero (bit_xor reg p ∷ ps)) h.zeros
    ∙ sym (check-append poly 0 (bit_xor reg p ∷ []) ps)
    ∙ ap (λ first. check poly first ps) (
    sym (check-table poly 0 (bit_xor reg p) h.narrow (omega arith) (xor_lt 8 reg p wide small))
    ∙ ap (λ place. get_or (table_of poly) place 0) (xor_zero_l (bit_xor reg p))
    ∙ check-table poly reg p h.narrow low small
    )
    ∙ check-append poly reg (p ∷ []) ps

-- seventeen octets in sevens from their end, added without carry
pub folded : (poly : List Bool) (reg p q r : ℕ) (second last : List ℕ) → HasPeriod poly → reg < 2 ^ degree poly → p < 256 → q < 256 → r < 256
    → length second ≡ 7 → length last ≡ 7 → All (λ octet. octet < 256) second → All (λ octet. octet < 256) last
    → check poly 0 (xored (xored (0 ∷ 0 ∷ 0 ∷ 0 ∷ bit_xor reg p ∷ q ∷ r ∷ []) second) last) ≡ check poly reg (p ∷ q ∷ r ∷ second ++ last)
unfolding AreSmall
folded poly reg p q r second last h low small_p small_q small_r seven also small less =
    let wide : reg < 256 = omega (arith, pow_mono h.narrow) in
    let first : List ℕ = 0 ∷ 0 ∷ 0 ∷ 0 ∷ bit_xor reg p ∷ q ∷ r ∷ [] in
    let zero_small : 0 < 256 = omega arith in
    let first_small : All (λ octet. octet < 256) first = all_small first (zero_small, (zero_small, (zero_small, (zero_small, (xor_lt 8 reg p wide small_p, (small_q, (small_r, tt))))))) in
    let none : 0 < 2 ^ degree poly = omega arith in
    let begun = check poly reg (p ∷ q ∷ r ∷ []) in
    added poly 0 0 (xored first second) last h none none (length-xored first second (sym seven) ∙ sym also) (xored-small first second first_small small) less
    ∙ ap (λ x. bit_xor x (check poly 0 last)) (
    added poly 0 0 first second h none none (sym seven) first_small small
    ∙ ap (λ x. bit_xor x (check poly 0 second)) (leading poly reg p (q ∷ r ∷ []) h low small_p)
    ∙ sym (seven_octets poly begun second h (check-lt poly reg (p ∷ q ∷ r ∷ [])) seven small)
    )
    ∙ sym (seven_octets poly (check poly begun second) last h (check-lt poly begun second) also less)
    ∙ check-append poly begun second last
    ∙ check-append poly reg (p ∷ q ∷ r ∷ []) (second ++ last)

-- twenty-three octets likewise
pub folded_longer : (poly : List Bool) (reg p q : ℕ) (second third last : List ℕ) → HasPeriod poly → reg < 2 ^ degree poly → p < 256 → q < 256
    → length second ≡ 7 → length third ≡ 7 → length last ≡ 7
    → All (λ octet. octet < 256) second → All (λ octet. octet < 256) third → All (λ octet. octet < 256) last
    → check poly 0 (xored (xored (xored (0 ∷ 0 ∷ 0 ∷ 0 ∷ 0 ∷ bit_xor reg p ∷ q ∷ []) second) third) last) ≡ check poly reg (p ∷ q ∷ second ++ (third ++ last))
unfolding AreSmall
folded_longer poly reg p q second third last h low small_p small_q seven also too small less least =
    let wide : reg < 256 = omega (arith, pow_mono h.narrow) in
    let first : List ℕ = 0 ∷ 0 ∷ 0 ∷ 0 ∷ 0 ∷ bit_xor reg p ∷ q ∷ [] in
    let zero_small : 0 < 256 = omega arith in
    let first_small : All (λ octet. octet < 256) first = all_small first (zero_small, (zero_small, (zero_small, (zero_small, (zero_small, (xor_lt 8 reg p wide small_p, (small_q, tt))))))) in
    let none : 0 < 2 ^ degree poly = omega arith in
    let begun = check poly reg (p ∷ q ∷ []) in
    let two = xored first second in
    let two_length : length two ≡ 7 = length-xored first second (sym seven) in
    let two_small = xored-small first second first_small small in
    added poly 0 0 (xored two third) last h none none (length-xored two third (two_length ∙ sym also) ∙ two_length ∙ sym too) (xored-small two third two_small less) least
    ∙ ap (λ x. bit_xor x (check poly 0 last)) (
    added poly 0 0 two third h none none (two_length ∙ sym also) two_small less
    ∙ ap (λ x. bit_xor x (check poly 0 third)) (
    added poly 0 0 first second h none none (sym seven) first_small small
    ∙ ap (λ x. bit_xor x (check poly 0 second)) (
    sym (check-append poly 0 (0 ∷ []) (0 ∷ 0 ∷ 0 ∷ 0 ∷ bit_xor reg p ∷ q ∷ []))
    ∙ ap (λ zero. check poly zero (0 ∷ 0 ∷ 0 ∷ 0 ∷ bit_xor reg p ∷ q ∷ [])) h.zero
    ∙ leading poly reg p (q ∷ []) h low small_p
    )
    ∙ sym (seven_octets poly begun second h (check-lt poly reg (p ∷ q ∷ [])) seven small)
    )
    ∙ sym (seven_octets poly (check poly begun second) third h (check-lt poly begun second) also less)
    )
    ∙ sym (seven_octets poly (check poly (check poly begun second) third) last h (check-lt poly (check poly begun second) third) too least)
    ∙ check-append poly (check poly begun second) third last
    ∙ check-append poly begun second (third ++ last)
    ∙ check-append poly reg (p ∷ q ∷ []) (second ++ (third ++ last))

-- ---- The two polynomials, computed

pub table3 : CRC3 ≡ table_of poly3
unfolding bits number poly3 xor add_front divided remainder table_of
table3 = refl

table7 : CRC7 ≡ table_of poly7
unfolding bits number poly7 xor add_front divided remainder table_of
table7 = refl

each_sum : (table : List ℕ) → ℕ → Bool
each_sum table n = keeps_sum table (n / 256) (n % 256)

sums3 : agree_below (each_sum CRC3) (λ _. true) 65536 ≡ true
unfolding each_sum keeps_sum
sums3 = refl

sums7 : agree_below (each_sum CRC7) (λ _. true) 65536 ≡ true
unfolding each_sum keeps_sum
sums7 = refl

stay3 : agree_below (stays poly3) (λ _. true) 8 ≡ true
unfolding stays check bits number poly3 xor add_front divided remainder
stay3 = refl

stay7 : agree_below (stays poly7) (λ _. true) 128 ≡ true
unfolding stays check bits number poly7 xor add_front divided remainder
stay7 = refl

sum_at : (table : List ℕ) (a b : ℕ) → agree_below (each_sum table) (λ _. true) 65536 ≡ true → a < 256 → b < 256 → keeps_sum table a b ≡ true
unfolding each_sum
sum_at table a b all low small =
    let high : (a * 256 + b) / 256 ≡ a = omega arith in
    let rest : (a * 256 + b) % 256 ≡ b = omega arith in
    rw (high, rest) at (agree_below_at (each_sum table) (λ _. true) 65536 (a * 256 + b) all (omega arith))

zeros3 : check poly3 0 (replicate 4 0) ≡ 0
unfolding check bits number poly3 xor add_front divided remainder
zeros3 = refl

zeros7 : check poly7 0 (replicate 4 0) ≡ 0
unfolding check bits number poly7 xor add_front divided remainder
zeros7 = refl

zero3 : check poly3 0 (0 ∷ []) ≡ 0
unfolding check bits number poly3 xor add_front divided remainder
zero3 = refl

zero7 : check poly7 0 (0 ∷ []) ≡ 0
unfolding check bits number poly7 xor add_front divided remainder
zero7 = refl

pub period3 : HasPeriod poly3
unfolding poly3
period3 = record {
  narrow = omega arith;
  keeps = λ a b low small. rw (← table3) (sum_at CRC3 a b sums3 low small);
  zeros = zeros3;
  zero = zero3;
  stays = λ reg low. agree_below_at (stays poly3) (λ _. true) 8 reg stay3 low;
}

pub period7 : HasPeriod poly7
unfolding poly7
period7 = record {
  narrow = omega arith;
  keeps = λ a b low small. rw (← table7) (sum_at CRC7 a b sums7 low small);
  zeros = zeros7;
  zero = zero7;
  stays = λ reg low. agree_below_at (stays poly7) (λ _. true) 128 reg stay7 low;
}

-- the first octet is checked apart
pub first_apart : (poly : List Bool) (octet : ℕ) (octets : List ℕ) → HasPeriod poly → octet < 256 → All (λ o. o < 256) octets
    → check poly 0 (octet ∷ octets) ≡ bit_xor (check poly 0 (octet ∷ replicate (length octets) 0)) (check poly 0 octets)
first_apart poly octet octets h small less =
    let first = check poly 0 (octet ∷ []) in
    let zeros = replicate (length octets) 0 in
    sym (check-append poly 0 (octet ∷ []) octets)
    ∙ ap (λ reg. check poly reg octets) (sym (xor_zero_r first))
    ∙ ap (check poly (bit_xor first 0)) (sym (zeros_added octets))
    ∙ added poly first 0 zeros octets h (check-lt poly 0 (octet ∷ [])) (omega (arith, pow_pos (degree poly))) (length-replicate (length octets) 0)
    (All-replicate (λ o. o < 256) (length octets) 0 (omega arith)) less
    ∙ ap (λ c. bit_xor c (check poly 0 octets)) (check-append poly 0 (octet ∷ []) zeros)

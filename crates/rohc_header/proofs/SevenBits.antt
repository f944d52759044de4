-- The 3-bit check of seven octets by one look-up: 1 + x + x^3 divides x^7 + 1, so bits may be added in sevens.
use Rattle.std.proofs.Common.{◌≡◌, ℕ, zero, suc, ◌-◌, ◌+◌, ◌*◌, ◌/◌, ◌%◌, ◌^◌, ◌<◌, Bool, true, nat_eq, List, [], ◌∷◌, length, get_or, replicate, bit_xor, All, refl, sym, ap, ◌∙◌, arith}
use Rattle.std.proofs.Math.Bool.{xor}
use Rattle.std.proofs.Math.Nat.{mod-eq_of_lt}
use Rattle.std.specs.Int.Bits.{xor_assoc, xor_zero_l, xor_zero_r, xor_shifted}
use Rattle.std.proofs.lemmas.Nat.{xor_shr, xor_mod, xor_lt, xor_comm, xor_block, pow_pos}
use Rattle.std.proofs.lemmas.Bool.{agree_below, agree_below_at, eqb-true}
use Rattle.std.proofs.lemmas.List.{replicate-append-replicate}
use Rattle.std.proofs.lemmas.List.Elements.{All-cons}
use Rattle.rohc_checks.specs.declared.tables.TheConstants.{CRC3}
use Rattle.rohc_checks.specs.Division.{bits, number, poly3, degree, add_front, divided, remainder, check, table_of}
use Rattle.rohc_checks.proofs.Division.{check-append, check-lt, check-nil, check-table}
use Rattle.rohc_header.proofs.SevenOctets.{AreSmall, all_small, first_apart, seven_zeros, period3, exchanged, table3}

-- a number plus itself shifted down by k bits, without carry
unfoldable pub down : ℕ → ℕ → ℕ
down k n = bit_xor n (n / 2 ^ k)

down-xor : (k a b : ℕ) → down k (bit_xor a b) ≡ bit_xor (down k a) (down k b)
unfolding down
down-xor k a b = ap (bit_xor (bit_xor a b)) (xor_shr a b k) ∙ exchanged a b (a / 2 ^ k) (b / 2 ^ k)

-- the four groups of seven bits in 28 bits, added without carry
unfoldable pub sevens : ℕ → ℕ
sevens n = down 7 (down 14 n) % 128

sevens-xor : (a b : ℕ) → sevens (bit_xor a b) ≡ bit_xor (sevens a) (sevens b)
unfolding sevens
sevens-xor a b =
    ap (λ n. down 7 n % 128) (down-xor 14 a b)
    ∙ ap (λ n. n % 128) (down-xor 7 (down 14 a) (down 14 b))
    ∙ xor_mod (down 7 (down 14 a)) (down 7 (down 14 b)) 7

-- the entry of the table for seven bits
look : ℕ → ℕ
look m = get_or CRC3 (m * 2) 0

each_sum : ℕ → Bool
each_sum n = nat_eq (look (bit_xor (n / 128) (n % 128))) (bit_xor (look (n / 128)) (look (n % 128)))

sums : agree_below each_sum (λ _. true) 16384 ≡ true
unfolding each_sum look
sums = refl

look-xor : (a b : ℕ) → a < 128 → b < 128 → look (bit_xor a b) ≡ bit_xor (look a) (look b)
unfolding each_sum
look-xor a b low small =
    let high : (a * 128 + b) / 128 ≡ a = omega arith in
    let rest : (a * 128 + b) % 128 ≡ b = omega arith in
    eqb-true _ _ (rw (high, rest) at (agree_below_at each_sum (λ _. true) 16384 (a * 128 + b) sums (omega arith)))

sevens_small : (n : ℕ) → sevens n < 128
unfolding sevens
sevens_small n = omega arith

found-xor : (a b : ℕ) → look (sevens (bit_xor a b)) ≡ bit_xor (look (sevens a)) (look (sevens b))
found-xor a b = ap look (sevens-xor a b) ∙ look-xor (sevens a) (sevens b) (sevens_small a) (sevens_small b)

-- the check of an octet with so many zeros after it
before : ℕ → ℕ → ℕ
before count octet = check poly3 0 (octet ∷ replicate count 0)

-- an octet at each of the seven places
each_place : ℕ → Bool
each_place n = nat_eq (look (sevens (n % 256 * 2 ^ (n / 256)))) (check poly3 0 (n % 256 ∷ replicate (6 - n / 256) 0))

places : agree_below each_place (λ _. true) 1792 ≡ true
unfolding each_place look sevens down check bits number poly3 xor add_front divided remainder
places = refl

at_place : (i octet : ℕ) → i < 7 → octet < 256 → look (sevens (octet * 2 ^ i)) ≡ before (6 - i) octet
unfolding each_place before
at_place i octet inside small =
    let high : (i * 256 + octet) / 256 ≡ i = omega arith in
    let rest : (i * 256 + octet) % 256 ≡ octet = omega arith in
    eqb-true _ _ (rw (high, rest) at (agree_below_at each_place (λ _. true) 1792 (i * 256 + octet) places (omega arith)))

-- seven places further on, an octet counts the same
each_further : ℕ → Bool
each_further n = nat_eq (sevens (n % 256 * 2 ^ (n / 256 + 7))) (sevens (n % 256 * 2 ^ (n / 256)))

furthers : agree_below each_further (λ _. true) 2048 ≡ true
unfolding each_further sevens down
furthers = refl

further : (i octet : ℕ) → i < 8 → octet < 256 → sevens (octet * 2 ^ (i + 7)) ≡ sevens (octet * 2 ^ i)
unfolding each_further
further i octet inside small =
    let high : (i * 256 + octet) / 256 ≡ i = omega arith in
    let rest : (i * 256 + octet) % 256 ≡ octet = omega arith in
    eqb-true _ _ (rw (high, rest) at (agree_below_at each_further (λ _. true) 2048 (i * 256 + octet) furthers (omega arith)))

-- Seven zeros are their own sum.
before_seven : (count octet : ℕ) → before (count + 7) octet ≡ before count octet
unfolding before
before_seven count octet =
    let reg = check poly3 0 (octet ∷ replicate count 0) in
    ap (λ zeros. check poly3 0 (octet ∷ zeros)) (sym (replicate-append-replicate count 7 0))
    ∙ sym (check-append poly3 0 (octet ∷ replicate count 0) (replicate 7 0))
    ∙ seven_zeros poly3 reg period3 (check-lt poly3 0 (octet ∷ replicate count 0))

one_look : (m : ℕ) → m < 128 → check poly3 0 (m * 2 ∷ []) ≡ look m
unfolding look
one_look m small =
    sym (check-table poly3 0 (m * 2) period3.narrow (pow_pos (degree poly3)) (omega arith))
    ∙ ap (λ place. get_or (table_of poly3) place 0) (xor_zero_l (m * 2))
    ∙ ap (λ table. get_or table (m * 2) 0) (sym table3)

-- two octets as one number, its first octet in the low bits
abbrev pub word : ℕ → ℕ → ℕ
word first second = first + second * 256

before_sevens : (count octet k : ℕ) → before (count + k * 7) octet ≡ before count octet
before_sevens count octet zero = ap (λ n. before n octet) (omega arith)
before_sevens count octet (suc k) =
    let one_more : count + suc k * 7 ≡ count + k * 7 + 7 = omega arith in
    ap (λ n. before n octet) one_more ∙ before_seven (count + k * 7) octet ∙ before_sevens count octet k

-- an octet at its place, for any number of octets after it
at_count : (i count octet : ℕ) → i < 7 → octet < 256 → count % 7 ≡ 6 - i → look (sevens (octet * 2 ^ i)) ≡ before count octet
at_count i count octet inside small is =
    let whole : count % 7 + count / 7 * 7 ≡ count = omega arith in
    at_place i octet inside small
    ∙ ap (λ n. before n octet) (sym is)
    ∙ sym (before_sevens (count % 7) octet (count / 7))
    ∙ ap (λ n. before n octet) whole

-- the second octet of a word
second_at : (s count octet : ℕ) → s < 6 → octet < 256 → count % 7 ≡ 5 - s → look (sevens (octet * 2 ^ (s + 8))) ≡ before count octet
second_at s count octet inside small is =
    let further_on : s + 8 ≡ s + 1 + 7 = omega arith in
    let place : count % 7 ≡ 6 - (s + 1) = omega (arith, is) in
    ap (λ e. look (sevens (octet * 2 ^ e))) further_on ∙ ap look (further (s + 1) octet (omega arith) small) ∙ at_count (s + 1) count octet (omega arith) small place

second_at_six : (count octet : ℕ) → octet < 256 → count % 7 ≡ 6 → look (sevens (octet * 2 ^ 14)) ≡ before count octet
second_at_six count octet small is =
    ap look (further 7 octet (omega arith) small ∙ further 0 octet (omega arith) small) ∙ at_count 0 count octet (omega arith) small is

-- a word at a place, whose octets have so many octets after them
word_found : (s count first second : ℕ) → first * 2 ^ s < 2 ^ (s + 8) → word first second * 2 ^ s ≡ second * 2 ^ (s + 8) + first * 2 ^ s
    → look (sevens (first * 2 ^ s)) ≡ before (count + 1) first → look (sevens (second * 2 ^ (s + 8))) ≡ before count second
    → look (sevens (word first second * 2 ^ s)) ≡ bit_xor (before (count + 1) first) (before count second)
word_found s count first second low apart first_found second_found =
    ap (λ n. look (sevens n)) (apart ∙ sym (xor_shifted second (s + 8) (first * 2 ^ s) low))
    ∙ found-xor (second * 2 ^ (s + 8)) (first * 2 ^ s)
    ∙ xor_comm (look (sevens (second * 2 ^ (s + 8)))) (look (sevens (first * 2 ^ s)))
    ∙ rw (first_found, second_found) refl

-- two octets in front of others are checked apart
two_apart : (a b : ℕ) (octets : List ℕ) → a < 256 → b < 256 → All (λ o. o < 256) octets
    → check poly3 0 (a ∷ b ∷ octets) ≡ bit_xor (bit_xor (before (suc (length octets)) a) (before (length octets) b)) (check poly3 0 octets)
unfolding before
two_apart a b octets ha hb small =
    first_apart poly3 a (b ∷ octets) period3 ha (All-cons (λ o. o < 256) b octets hb small)
    ∙ ap (bit_xor (check poly3 0 (a ∷ replicate (length (b ∷ octets)) 0))) (first_apart poly3 b octets period3 hb small)
    ∙ sym (xor_assoc (check poly3 0 (a ∷ replicate (length (b ∷ octets)) 0)) (check poly3 0 (b ∷ replicate (length octets) 0)) (check poly3 0 octets))

rows : (a b c d e f g h i : ℕ) → bit_xor (bit_xor (bit_xor (bit_xor (bit_xor (bit_xor (bit_xor a b) c) d) e) f) g) (bit_xor h i)
    ≡ bit_xor a (bit_xor b (bit_xor c (bit_xor d (bit_xor e (bit_xor f (bit_xor g (bit_xor h i)))))))
rows a b c d e f g h i = simp xor_assoc refl

in_a_row : (a b c d e f g h i j k l m n o p q : ℕ) → AreSmall (a ∷ b ∷ c ∷ d ∷ e ∷ f ∷ g ∷ h ∷ i ∷ j ∷ k ∷ l ∷ m ∷ n ∷ o ∷ p ∷ q ∷ [])
    → check poly3 0 (a ∷ b ∷ c ∷ d ∷ e ∷ f ∷ g ∷ h ∷ i ∷ j ∷ k ∷ l ∷ m ∷ n ∷ o ∷ p ∷ q ∷ [])
    ≡ bit_xor (bit_xor (before 16 a) (before 15 b)) (bit_xor (bit_xor (before 14 c) (before 13 d)) (bit_xor (bit_xor (before 12 e) (before 11 f)) (bit_xor (bit_xor (before 10 g) (before 9 h)) (bit_xor (bit_xor (before 8 i) (before 7 j)) (bit_xor (before 6 k) (bit_xor (bit_xor (before 5 l) (before 4 m)) (bit_xor (bit_xor (before 3 n) (before 2 o)) (bit_xor (before 1 p) (before 0 q)))))))))
unfolding AreSmall before
in_a_row a b c d e f g h i j k l m n o p q s =
    two_apart a b (c ∷ d ∷ e ∷ f ∷ g ∷ h ∷ i ∷ j ∷ k ∷ l ∷ m ∷ n ∷ o ∷ p ∷ q ∷ []) s.0 s.1.0 (all_small (c ∷ d ∷ e ∷ f ∷ g ∷ h ∷ i ∷ j ∷ k ∷ l ∷ m ∷ n ∷ o ∷ p ∷ q ∷ []) (s.1.1))
    ∙ ap (bit_xor (bit_xor (before 16 a) (before 15 b))) (
    two_apart c d (e ∷ f ∷ g ∷ h ∷ i ∷ j ∷ k ∷ l ∷ m ∷ n ∷ o ∷ p ∷ q ∷ []) s.1.1.0 s.1.1.1.0 (all_small (e ∷ f ∷ g ∷ h ∷ i ∷ j ∷ k ∷ l ∷ m ∷ n ∷ o ∷ p ∷ q ∷ []) (s.1.1.1.1))
    ∙ ap (bit_xor (bit_xor (before 14 c) (before 13 d))) (
    two_apart e f (g ∷ h ∷ i ∷ j ∷ k ∷ l ∷ m ∷ n ∷ o ∷ p ∷ q ∷ []) s.1.1.1.1.0 s.1.1.1.1.1.0 (all_small (g ∷ h ∷ i ∷ j ∷ k ∷ l ∷ m ∷ n ∷ o ∷ p ∷ q ∷ []) (s.1.1.1.1.1.1))
    ∙ ap (bit_xor (bit_xor (before 12 e) (before 11 f))) (
    two_apart g h (i ∷ j ∷ k ∷ l ∷ m ∷ n ∷ o ∷ p ∷ q ∷ []) s.1.1.1.1.1.1.0 s.1.1.1.1.1.1.1.0 (all_small (i ∷ j ∷ k ∷ l ∷ m ∷ n ∷ o ∷ p ∷ q ∷ []) (s.1.1.1.1.1.1.1.1))
    ∙ ap (bit_xor (bit_xor (before 10 g) (before 9 h))) (
    two_apart i j (k ∷ l ∷ m ∷ n ∷ o ∷ p ∷ q ∷ []) s.1.1.1.1.1.1.1.1.0 s.1.1.1.1.1.1.1.1.1.0 (all_small (k ∷ l ∷ m ∷ n ∷ o ∷ p ∷ q ∷ []) (s.1.1.1.1.1.1.1.1.1.1))
    ∙ ap (bit_xor (bit_xor (before 8 i) (before 7 j))) (
    first_apart poly3 k (l ∷ m ∷ n ∷ o ∷ p ∷ q ∷ []) period3 s.1.1.1.1.1.1.1.1.1.1.0 (all_small (l ∷ m ∷ n ∷ o ∷ p ∷ q ∷ []) (s.1.1.1.1.1.1.1.1.1.1.1))
    ∙ ap (bit_xor (before 6 k)) (
    two_apart l m (n ∷ o ∷ p ∷ q ∷ []) s.1.1.1.1.1.1.1.1.1.1.1.0 s.1.1.1.1.1.1.1.1.1.1.1.1.0 (all_small (n ∷ o ∷ p ∷ q ∷ []) (s.1.1.1.1.1.1.1.1.1.1.1.1.1))
    ∙ ap (bit_xor (bit_xor (before 5 l) (before 4 m))) (
    two_apart n o (p ∷ q ∷ []) s.1.1.1.1.1.1.1.1.1.1.1.1.1.0 s.1.1.1.1.1.1.1.1.1.1.1.1.1.1.0 (all_small (p ∷ q ∷ []) (s.1.1.1.1.1.1.1.1.1.1.1.1.1.1.1))
    ∙ ap (bit_xor (bit_xor (before 3 n) (before 2 o))) (
    two_apart p q [] s.1.1.1.1.1.1.1.1.1.1.1.1.1.1.1.0 s.1.1.1.1.1.1.1.1.1.1.1.1.1.1.1.1.0 (all_small [] tt) ∙ ap (bit_xor (bit_xor (before 1 p) (before 0 q))) (check-nil poly3 0 (pow_pos (degree poly3))) ∙ xor_zero_r (bit_xor (before 1 p) (before 0 q))
    )
    )
    )
    )
    )
    )
    )
    )

-- seventeen octets as eight words and an octet, each at its place
unfoldable pub all_words : (a b c d e f g h i j k l m n o p q : ℕ) → ℕ
all_words a b c d e f g h i j k l m n o p q =
    bit_xor (bit_xor (bit_xor (bit_xor (bit_xor (bit_xor (bit_xor (word a b * 2 ^ 4) (word c d * 2 ^ 6)) (word e f * 2 ^ 1)) (word g h * 2 ^ 3)) (word i j * 2 ^ 5)) k) (word l m * 2 ^ 1)) (bit_xor (word n o * 2 ^ 3) (word p q * 2 ^ 5))

-- Two words may be added before they are shifted, and no bit is shifted out of 32.
both_shifted : (w s x y : ℕ) → ((n : ℕ) → n < 2 ^ w → n * 2 ^ s < 2 ^ 32) → x < 2 ^ w → y < 2 ^ w
    → bit_xor x y * 2 ^ s % 2 ^ 32 ≡ bit_xor (x * 2 ^ s) (y * 2 ^ s)
both_shifted w s x y within first second =
    let raised : x * 2 ^ s + 0 ≡ x * 2 ^ s = omega arith in
    let raised_too : y * 2 ^ s + 0 ≡ y * 2 ^ s = omega arith in
    let apart : bit_xor (x * 2 ^ s) (y * 2 ^ s) ≡ bit_xor x y * 2 ^ s
    = ap (λ n. bit_xor n (y * 2 ^ s)) (sym raised) ∙ ap (bit_xor (x * 2 ^ s + 0)) (sym raised_too)
    ∙ xor_block s x y 0 0 (pow_pos s) (pow_pos s) ∙ omega arith in
    mod-eq_of_lt (within (bit_xor x y) (xor_lt w x y first second)) ∙ sym apart

-- Two numbers of two words each, added without carry: their low words, and their high ones.
halves : (a b c d : ℕ) → a < 2 ^ 16 → c < 2 ^ 16 → bit_xor (b * 2 ^ 16 + a) (d * 2 ^ 16 + c) ≡ bit_xor b d * 2 ^ 16 + bit_xor a c
halves a b c d low small = xor_block 16 b d a c low small

-- a number of less than eight bits is added to the first of two octets
pub low_octet : (first second reg m : ℕ) → first < 2 ^ 8 → reg < 2 ^ 8 → m ≡ first + second * 256 → bit_xor m reg ≡ bit_xor first reg + second * 256
low_octet first second reg m small low e =
    let one : m ≡ second * 2 ^ 8 + first = omega (arith, e) in
    let other : reg ≡ 0 * 2 ^ 8 + reg = omega arith in
    let whole : second * 2 ^ 8 + bit_xor first reg ≡ bit_xor first reg + second * 256 = omega arith in
    ap (λ n. bit_xor n reg) one
    ∙ ap (λ n. bit_xor (second * 2 ^ 8 + first) n) other
    ∙ xor_block 8 second 0 first reg small low
    ∙ ap (λ n. n * 2 ^ 8 + bit_xor first reg) (xor_zero_r second)
    ∙ whole

pub low_half : (a b c d m n : ℕ) → a < 2 ^ 16 → c < 2 ^ 16 → m ≡ b * 2 ^ 16 + a → n ≡ d * 2 ^ 16 + c → bit_xor m n % 65536 ≡ bit_xor a c
low_half a b c d m n low small first second =
    rw (first, second) (omega (arith, halves a b c d low small, xor_lt 16 a c low small))

pub high_half : (a b c d m n : ℕ) → a < 2 ^ 16 → c < 2 ^ 16 → m ≡ b * 2 ^ 16 + a → n ≡ d * 2 ^ 16 + c → bit_xor m n / 65536 ≡ bit_xor b d
high_half a b c d m n low small first second =
    rw (first, second) (omega (arith, halves a b c d low small, xor_lt 16 a c low small))

-- Nine words in the order of their shifts, and in the order of the header.
in_order : (a b c d e f g h k : ℕ) → bit_xor (bit_xor (bit_xor (bit_xor (bit_xor a b) (bit_xor c f)) (bit_xor d g)) (bit_xor e h)) k
    ≡ bit_xor (bit_xor (bit_xor (bit_xor (bit_xor (bit_xor (bit_xor a b) c) d) e) k) f) (bit_xor g h)
in_order a b c d e f g h k =
    let p1 = bit_xor (bit_xor a b) c in
    let p2 = bit_xor p1 d in
    let p3 = bit_xor p2 e in
    ap (λ x. bit_xor (bit_xor (bit_xor x (bit_xor d g)) (bit_xor e h)) k) (sym (xor_assoc (bit_xor a b) c f))
    ∙ ap (λ x. bit_xor (bit_xor x (bit_xor e h)) k) (exchanged p1 f d g)
    ∙ ap (λ x. bit_xor x k) (exchanged p2 (bit_xor f g) e h)
    ∙ xor_assoc p3 (bit_xor (bit_xor f g) h) k
    ∙ ap (bit_xor p3) (xor_comm (bit_xor (bit_xor f g) h) k)
    ∙ sym (xor_assoc p3 k (bit_xor (bit_xor f g) h))
    ∙ ap (bit_xor (bit_xor p3 k)) (xor_assoc f g h)
    ∙ sym (xor_assoc (bit_xor p3 k) f (bit_xor g h))

-- The bits that a header's words make when those of one shift are added first.
pub shifted : (a b c d e f g h i j k l m n o p q : ℕ) → AreSmall (a ∷ b ∷ c ∷ d ∷ e ∷ f ∷ g ∷ h ∷ i ∷ j ∷ k ∷ l ∷ m ∷ n ∷ o ∷ p ∷ q ∷ [])
    → bit_xor (bit_xor (bit_xor (bit_xor (bit_xor (word a b * 2 ^ 4 % 2 ^ 32) (word c d * 2 ^ 6 % 2 ^ 32)) (bit_xor (word e f) (word l m) * 2 ^ 1 % 2 ^ 32)) (bit_xor (word g h) (word n o) * 2 ^ 3 % 2 ^ 32)) (bit_xor (word i j) (word p q) * 2 ^ 5 % 2 ^ 32)) k
    ≡ all_words a b c d e f g h i j k l m n o p q
unfolding AreSmall all_words
shifted a b c d e f g h i j k l m n o p q s =
    let a_stays : word a b * 2 ^ 4 % 2 ^ 32 ≡ word a b * 2 ^ 4 = omega (arith, s.0, s.1.0) in
    let c_stays : word c d * 2 ^ 6 % 2 ^ 32 ≡ word c d * 2 ^ 6 = omega (arith, s.1.1.0, s.1.1.1.0) in
    let e_small : word e f < 2 ^ 16 = omega (arith, s.1.1.1.1.0, s.1.1.1.1.1.0) in
    let g_small : word g h < 2 ^ 16 = omega (arith, s.1.1.1.1.1.1.0, s.1.1.1.1.1.1.1.0) in
    let i_small : word i j < 2 ^ 16 = omega (arith, s.1.1.1.1.1.1.1.1.0, s.1.1.1.1.1.1.1.1.1.0) in
    let l_small : word l m < 2 ^ 16 = omega (arith, s.1.1.1.1.1.1.1.1.1.1.1.0, s.1.1.1.1.1.1.1.1.1.1.1.1.0) in
    let n_small : word n o < 2 ^ 16 = omega (arith, s.1.1.1.1.1.1.1.1.1.1.1.1.1.0, s.1.1.1.1.1.1.1.1.1.1.1.1.1.1.0) in
    let p_small : word p q < 2 ^ 16 = omega (arith, s.1.1.1.1.1.1.1.1.1.1.1.1.1.1.1.0, s.1.1.1.1.1.1.1.1.1.1.1.1.1.1.1.1.0) in
    rw (a_stays, c_stays, both_shifted 16 1 (word e f) (word l m) (λ n small. omega (arith, small)) e_small l_small, both_shifted 16 3 (word g h) (word n o) (λ n small. omega (arith, small)) g_small n_small, both_shifted 16 5 (word i j) (word p q) (λ n small. omega (arith, small)) i_small p_small)
    (in_order (word a b * 2 ^ 4) (word c d * 2 ^ 6) (word e f * 2 ^ 1) (word g h * 2 ^ 3) (word i j * 2 ^ 5) (word l m * 2 ^ 1) (word n o * 2 ^ 3) (word p q * 2 ^ 5) k)

-- The check of all words is that of one group.
pub seventeen_found : (a b c d e f g h i j k l m n o p q : ℕ) → AreSmall (a ∷ b ∷ c ∷ d ∷ e ∷ f ∷ g ∷ h ∷ i ∷ j ∷ k ∷ l ∷ m ∷ n ∷ o ∷ p ∷ q ∷ [])
    → check poly3 0 (sevens (all_words a b c d e f g h i j k l m n o p q) * 2 ∷ [])
    ≡ check poly3 0 (a ∷ b ∷ c ∷ d ∷ e ∷ f ∷ g ∷ h ∷ i ∷ j ∷ k ∷ l ∷ m ∷ n ∷ o ∷ p ∷ q ∷ [])
unfolding AreSmall all_words
seventeen_found a b c d e f g h i j k l m n o p q s =
    let w1 : look (sevens (word a b * 2 ^ 4)) ≡ bit_xor (before 16 a) (before 15 b)
    = word_found 4 15 a b (omega (arith, s.0)) (omega arith) (at_count 4 16 a (omega arith) s.0 (omega arith)) (second_at 4 15 b (omega arith) s.1.0 (omega arith)) in
    let w2 : look (sevens (word c d * 2 ^ 6)) ≡ bit_xor (before 14 c) (before 13 d)
    = word_found 6 13 c d (omega (arith, s.1.1.0)) (omega arith) (at_count 6 14 c (omega arith) s.1.1.0 (omega arith)) (second_at_six 13 d s.1.1.1.0 (omega arith)) in
    let w3 : look (sevens (word e f * 2 ^ 1)) ≡ bit_xor (before 12 e) (before 11 f)
    = word_found 1 11 e f (omega (arith, s.1.1.1.1.0)) (omega arith) (at_count 1 12 e (omega arith) s.1.1.1.1.0 (omega arith)) (second_at 1 11 f (omega arith) s.1.1.1.1.1.0 (omega arith)) in
    let w4 : look (sevens (word g h * 2 ^ 3)) ≡ bit_xor (before 10 g) (before 9 h)
    = word_found 3 9 g h (omega (arith, s.1.1.1.1.1.1.0)) (omega arith) (at_count 3 10 g (omega arith) s.1.1.1.1.1.1.0 (omega arith)) (second_at 3 9 h (omega arith) s.1.1.1.1.1.1.1.0 (omega arith)) in
    let w5 : look (sevens (word i j * 2 ^ 5)) ≡ bit_xor (before 8 i) (before 7 j)
    = word_found 5 7 i j (omega (arith, s.1.1.1.1.1.1.1.1.0)) (omega arith) (at_count 5 8 i (omega arith) s.1.1.1.1.1.1.1.1.0 (omega arith)) (second_at 5 7 j (omega arith) s.1.1.1.1.1.1.1.1.1.0 (omega arith)) in
    let once : k * 2 ^ 0 ≡ k = omega arith in
    let w6 : look (sevens k) ≡ before 6 k = rw once at (at_count 0 6 k (omega arith) s.1.1.1.1.1.1.1.1.1.1.0 (omega arith)) in
    let w7 : look (sevens (word l m * 2 ^ 1)) ≡ bit_xor (before 5 l) (before 4 m)
    = word_found 1 4 l m (omega (arith, s.1.1.1.1.1.1.1.1.1.1.1.0)) (omega arith) (at_count 1 5 l (omega arith) s.1.1.1.1.1.1.1.1.1.1.1.0 (omega arith)) (second_at 1 4 m (omega arith) s.1.1.1.1.1.1.1.1.1.1.1.1.0 (omega arith)) in
    let w8 : look (sevens (word n o * 2 ^ 3)) ≡ bit_xor (before 3 n) (before 2 o)
    = word_found 3 2 n o (omega (arith, s.1.1.1.1.1.1.1.1.1.1.1.1.1.0)) (omega arith) (at_count 3 3 n (omega arith) s.1.1.1.1.1.1.1.1.1.1.1.1.1.0 (omega arith)) (second_at 3 2 o (omega arith) s.1.1.1.1.1.1.1.1.1.1.1.1.1.1.0 (omega arith)) in
    let w9 : look (sevens (word p q * 2 ^ 5)) ≡ bit_xor (before 1 p) (before 0 q)
    = word_found 5 0 p q (omega (arith, s.1.1.1.1.1.1.1.1.1.1.1.1.1.1.1.0)) (omega arith) (at_count 5 1 p (omega arith) s.1.1.1.1.1.1.1.1.1.1.1.1.1.1.1.0 (omega arith)) (second_at 5 0 q (omega arith) s.1.1.1.1.1.1.1.1.1.1.1.1.1.1.1.1.0 (omega arith)) in
    let all = all_words a b c d e f g h i j k l m n o p q in
    let apart : look (sevens all) ≡ bit_xor (bit_xor (bit_xor (bit_xor (bit_xor (bit_xor (bit_xor (look (sevens (word a b * 2 ^ 4))) (look (sevens (word c d * 2 ^ 6)))) (look (sevens (word e f * 2 ^ 1)))) (look (sevens (word g h * 2 ^ 3)))) (look (sevens (word i j * 2 ^ 5)))) (look (sevens k))) (look (sevens (word l m * 2 ^ 1)))) (bit_xor (look (sevens (word n o * 2 ^ 3))) (look (sevens (word p q * 2 ^ 5)))) = simp found-xor refl in
    one_look (sevens all) (sevens_small all) ∙ apart ∙ rw (w1, w2, w3, w4, w5, w6, w7, w8, w9)
    (rows (bit_xor (before 16 a) (before 15 b)) (bit_xor (before 14 c) (before 13 d)) (bit_xor (before 12 e) (before 11 f)) (bit_xor (before 10 g) (before 9 h)) (bit_xor (before 8 i) (before 7 j)) (before 6 k) (bit_xor (before 5 l) (before 4 m)) (bit_xor (before 3 n) (before 2 o)) (bit_xor (before 1 p) (before 0 q)) ∙ sym (in_a_row a b c d e f g h i j k l m n o p q s))

-- the register may be added to the first octet
pub register_added : (reg first : ℕ) (octets : List ℕ) → reg < 8 → first < 256 → check poly3 0 (bit_xor first reg ∷ octets) ≡ check poly3 reg (first ∷ octets)
unfolding poly3
register_added reg first octets low small =
    let wide : reg < 256 = omega (arith, low) in
    sym (check-append poly3 0 (bit_xor first reg ∷ []) octets)
    ∙ ap (λ begun. check poly3 begun octets) (
    sym (check-table poly3 0 (bit_xor first reg) period3.narrow (pow_pos (degree poly3)) (xor_lt 8 first reg small wide))
    ∙ ap (λ place. get_or (table_of poly3) place 0) (xor_zero_l (bit_xor first reg) ∙ xor_comm first reg)
    ∙ check-table poly3 reg first period3.narrow low small
    )
    ∙ check-append poly3 reg (first ∷ []) octets

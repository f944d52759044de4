-- Octets as lower case pairs of digits, written and read back.
use Rattle.std.proofs.Common.{◌≡◌, ℕ, zero, suc, ◌+◌, ◌*◌, ◌/◌, ◌%◌, ◌<◌, ◌≤◌, Bool, true, false, ◌&&◌, ◌==◌, if◌then◌else◌, List, [], ◌∷◌, ◌++◌, length, slice_index, take, drop, take-add, take-append-drop, unwrap_or, Result, Ok, Err, sym, ◌∙◌, ap, refl, arith, inl, inr}
use Rattle.std.specs.Prelude.{All, nat_eq, nat_lt, IsOk, MatchResult}
use Rattle.std.specs.List.{list_all, AllPass}
use Rattle.std.specs.Int.Bits.{bit_and}
use Rattle.std.proofs.lemmas.Bool.{agree_below_at, and_parts, eqb-true, cases_lt, ltb-true}
use lib.Seq.{take-nil}
use Rattle.std.proofs.lemmas.List.Elements.{All-head, All-tail}
use Rattle.std.proofs.lemmas.List.Folds.{list_all-append}
use Rattle.hex.specs.Hex.{IsBytes, encode_with, encode_lower, lower_digits, hex_digit_value, is_hex_digit, decode_of, decode_sized}
use Rattle.hex.specs.declared.error.FromHexError.{FromHexError}
use Rattle.hex.proofs.HexLemmas.{decode_of-ok, decode_of-same, decode_of-encode_lower, decode_sized-twice, decode_sized-encode_lower, length-encode_with, IsOk-written}
use Rattle.rohc_frame.specs.Laws.{IsOctet}
use Rattle.rohc_replay.specs.LowerCase.{has_lower_bit}

-- the digits of two texts, one behind the other
pub encode-append : (xs ys : List ℕ) → encode_lower (xs ++ ys) ≡ encode_lower xs ++ encode_lower ys
unfolding encode_with
encode-append [] ys = refl
encode-append (x ∷ xs) ys = rw (encode-append xs ys) refl

-- octets are bytes
pub octets_are_bytes : (xs : List ℕ) → All IsOctet xs → IsBytes xs
octets_are_bytes [] all i = omega arith
octets_are_bytes (x ∷ xs) all zero = All-head IsOctet x xs all
octets_are_bytes (x ∷ xs) all (suc i) = octets_are_bytes xs (All-tail IsOctet x xs all) i

-- ---- lower case digits

-- each digit that is written has the bit
digit_is_lower : (v : ℕ) → v < 16 → has_lower_bit (slice_index lower_digits v) ≡ true
digit_is_lower v small =
    let agrees = agree_below_at (λ n. has_lower_bit (slice_index lower_digits n)) (λ n. true) 16 v refl small in
    agrees

pub written_is_lower : (xs : List ℕ) → IsBytes xs → list_all has_lower_bit (encode_lower xs) ≡ true
unfolding encode_with
written_is_lower [] bytes = refl
written_is_lower (x ∷ xs) bytes =
    let small : x < 256 = bytes 0 in
    let high = digit_is_lower (x / 16) (omega arith) in
    let low = digit_is_lower (x % 16) (omega arith) in
    rw (high, low) (written_is_lower xs (λ i. bytes (suc i)))

-- what the octets so far have in common with the bit, and then one octet more
pub common_more : (all : Bool) (octet : ℕ) → octet < 256
    → bit_and (if all then 32 else 0) octet ≡ (if all && has_lower_bit octet then 32 else 0)
common_more true octet small =
    let agrees = agree_below_at (λ n. bit_and 32 n == (if has_lower_bit n then 32 else 0)) (λ n. true) 256 octet refl small in
    eqb-true (bit_and 32 octet) (if has_lower_bit octet then 32 else 0) agrees
common_more false octet small =
    let agrees = agree_below_at (λ n. bit_and 0 n == 0) (λ n. true) 256 octet refl small in
    eqb-true (bit_and 0 octet) 0 agrees

-- what two texts have in common with the bit
pub common_both : (a b : Bool) → bit_and (if a then 32 else 0) (if b then 32 else 0) ≡ (if a && b then 32 else 0)
common_both true true = refl
common_both true false = refl
common_both false true = refl
common_both false false = refl

-- whether the bit is left
pub bit_left : (all : Bool) → nat_eq (if all then 32 else 0) 32 ≡ all
bit_left true = refl
bit_left false = refl

-- a front with one part more
pub front_more : (text : List ℕ) (at more : ℕ)
    → list_all has_lower_bit (take (at + more) text) ≡ (list_all has_lower_bit (take at text) && list_all has_lower_bit (take more (drop at text)))
front_more text at more = ap (list_all has_lower_bit) (take-add at more text) ∙ list_all-append has_lower_bit (take at text) (take more (drop at text))

both_more : (a b c : Bool) → ((a && b) && c) ≡ (a && (b && c))
both_more true b c = refl
both_more false b c = refl

twice : (a b : Bool) → (a && (a && b)) ≡ (a && b)
twice true b = refl
twice false b = refl

-- a front of a text and a back of it that reach each other are all of it
pub covered : (text : List ℕ) (back front : ℕ) → back ≤ front
    → (list_all has_lower_bit (take front text) && list_all has_lower_bit (drop back text)) ≡ list_all has_lower_bit text
covered text zero front reach =
    let parts : list_all has_lower_bit text ≡ (list_all has_lower_bit (take front text) && list_all has_lower_bit (drop front text)) =
    ap (list_all has_lower_bit) (sym (take-append-drop front text)) ∙ list_all-append has_lower_bit (take front text) (drop front text) in
    ap (λ (b : Bool). list_all has_lower_bit (take front text) && b) parts ∙ twice (list_all has_lower_bit (take front text)) (list_all has_lower_bit (drop front text)) ∙ sym parts
covered [] (suc back) front reach = rw (take-nil front) refl
covered (x ∷ xs) (suc back) zero reach = absurd (omega (arith, reach))
covered (x ∷ xs) (suc back) (suc front) reach =
    both_more (has_lower_bit x) (list_all has_lower_bit (take front xs)) (list_all has_lower_bit (drop back xs)) ∙ ap (λ (b : Bool). has_lower_bit x && b) (covered xs back front (omega (arith, reach)))

abbrev value : ℕ → ℕ
value c = unwrap_or (hex_digit_value c) 16

abbrev is_lower_digit : ℕ → Bool
is_lower_digit c = is_hex_digit c && has_lower_bit c

abbrev is_spelled : ℕ → Bool
is_spelled c = (slice_index lower_digits (value c) == c) && nat_lt (value c) 16

-- behind `f` there is no digit
past_digits : (c : ℕ) → 103 ≤ c → is_hex_digit c ≡ true → ⊥
past_digits c above digit = grind arith

-- a digit with the bit is what its value is written as
lower_digit : (c : ℕ) → is_hex_digit c ≡ true → has_lower_bit c ≡ true → (v : ℕ) × (v < 16) × (slice_index lower_digits v ≡ c)
lower_digit c digit lower =
    elim (cases_lt c 103) [
      | inl below ↦
          let good : is_lower_digit c ≡ true = rw (digit, lower) refl in
          let agrees = agree_below_at (λ n. is_lower_digit n && is_spelled n) is_lower_digit 103 c refl below in
          let spelled = and_parts (slice_index lower_digits (value c) == c) (nat_lt (value c) 16) (and_parts (is_lower_digit c) (is_spelled c) (agrees ∙ good)).1 in
          (value c, ltb-true (value c) 16 spelled.1, eqb-true (slice_index lower_digits (value c)) c spelled.0)
      | inr above ↦ absurd (past_digits c above digit)
    ]

-- an even number of lower case digits is the text of some octets
octets_of : (text : List ℕ) → length text % 2 ≡ 0 → AllPass is_hex_digit text → list_all has_lower_bit text ≡ true → (xs : List ℕ) × (text ≡ encode_lower xs) × IsBytes xs
unfolding encode_with
octets_of [] even digits lower = ([], refl, λ i. omega arith)
octets_of (a ∷ []) even digits lower = absurd (omega (arith, even))
octets_of (a ∷ b ∷ rest) even digits lower =
    let P = λ (c : ℕ). is_hex_digit c ≡ true in
    let tail = All-tail P a (b ∷ rest) digits in
    let first = and_parts (has_lower_bit a) _ lower in
    let second = and_parts (has_lower_bit b) _ first.1 in
    let high = lower_digit a (All-head P a (b ∷ rest) digits) first.0 in
    let low = lower_digit b (All-head P b rest tail) second.0 in
    let later = octets_of rest (omega (arith, even)) (All-tail P b rest tail) second.1 in
    let x : ℕ = high.0 * 16 + low.0 in
    let upper : x / 16 ≡ high.0 = omega (arith, high.1, low.1) in
    let under : x % 16 ≡ low.0 = omega (arith, high.1, low.1) in (
      x ∷ later.0,
      rw (upper, under, high.2, low.2) (ap (λ (t : List ℕ). a ∷ b ∷ t) later.1),
      bytes_cons x later.0 (omega (arith, high.1, low.1)) later.2,
    )
  where
    bytes_cons : (b : ℕ) (rest : List ℕ) → b < 256 → IsBytes rest → IsBytes (b ∷ rest)
    bytes_cons b rest h hs zero = h
    bytes_cons b rest h hs (suc i) = hs i

-- a text of octets with the bit that is read as these octets is what they are written as
pub read_is_written : (text octets : List ℕ) → decode_of text ≡ Ok octets → list_all has_lower_bit text ≡ true → text ≡ encode_lower octets
read_is_written text octets read lower =
    let good = decode_of-ok text octets read in
    let xs = octets_of text good.0 good.1 lower in
    xs.1 ∙ ap encode_lower (decode_of-same text xs.0 octets (ap decode_of xs.1 ∙ decode_of-encode_lower xs.0 xs.2) read)

-- ---- what a slice's decoding answers

abbrev Answers : List ℕ → ℕ → Result Unit FromHexError → List ℕ → Type 0
Answers text n r out = MatchResult (decode_sized text n) (λ bytes. (r ≡ Ok tt) × (out ≡ bytes)) (λ e. r ≡ Err e)

-- a text that was read, and has the bit in each octet, is what the octets are written as
pub spelled : (text out : List ℕ) (n : ℕ) (r : Result Unit FromHexError) → length text ≡ 2 * n → Answers text n r out → IsOk r → list_all has_lower_bit text ≡ true → text ≡ encode_lower out
spelled text out n r size answers ok lower = go (decode_sized text n) (decode_sized-twice text n size) answers
  where
    go : (d : Result (List ℕ) FromHexError) → d ≡ decode_of text → MatchResult d (λ bytes. (r ≡ Ok tt) × (out ≡ bytes)) (λ e. r ≡ Err e) → text ≡ encode_lower out
    go (Ok bytes) e h = read_is_written text out (sym e ∙ ap Ok (sym h.1)) lower
    go (Err fault) e h = let wrong = rw h at ok in cc wrong

-- octets that were written are read
pub is_read : (text other out : List ℕ) (n : ℕ) (r : Result Unit FromHexError) → length text ≡ 2 * n → Answers text n r out → All IsOctet other → text ≡ encode_lower other → IsOk r
is_read text other out n r size answers octets same =
    let bytes = octets_are_bytes other octets in
    let len = length-encode_with lower_digits other in
    let whole : length text ≡ length (encode_lower other) = ap length same in
    let read : decode_sized text n ≡ Ok other = ap (λ (t : List ℕ). decode_sized t n) same ∙ decode_sized-encode_lower other n (omega (arith, len, whole, size)) bytes in
    (IsOk-written (decode_sized text n) r out answers).1 (rw read refl)

-- and each octet has the bit
pub is_lower : (text other : List ℕ) → All IsOctet other → text ≡ encode_lower other → list_all has_lower_bit text ≡ true
is_lower text other octets same = ap (list_all has_lower_bit) same ∙ written_is_lower other (octets_are_bytes other octets)

-- What stands for a text stays text.
use Rattle.std.proofs.Common.{◌≡◌, ℕ, ◌<◌, ◌/◌, ◌%◌, List, [], ◌∷◌, ◌++◌, Bool, true, false, ◌&&◌, ◌==◌, nat_le, nat_lt, if◌then◌else◌, map, Result, Ok, Err, IfOk, refl, ap, arith}
use Rattle.std.proofs.lemmas.Bool.{agree_below_at}
use Rattle.std.specs.List.{flat_map, list_all}
use Rattle.rohc_report.specs.Escaped.{digit_of, piece_of, escaped, is_plain, is_piece, IsTame}

-- a digit is plain
plain_digit : (n : ℕ) → n < 16 → is_plain (digit_of n) ≡ true
plain_digit n small = agree_below_at (λ n. is_plain (digit_of n)) (λ _. true) 16 n refl small

-- both of two choices are pieces
both : (b : Bool) (x y : List ℕ) → (b ≡ true → is_piece x ≡ true) → (b ≡ false → is_piece y ≡ true) →
    is_piece (if b then x else y) ≡ true
both true x y on off = on refl
both false x y on off = off refl

-- a printable character that means nothing to a page is a piece by itself
alone : (c : ℕ) → (c == 38) ≡ false → (c == 60) ≡ false → (c == 62) ≡ false → (c == 34) ≡ false → (c == 39) ≡ false →
    (nat_le 32 c && nat_lt c 127) ≡ true → is_piece (c ∷ []) ≡ true
alone c amp less more quote tick printable = rw (printable, amp, less, more, quote, tick) refl

-- two digits behind `\x` are a piece
in_digits : (c : ℕ) → is_piece (92 ∷ 120 ∷ digit_of (c / 16 % 16) ∷ digit_of (c % 16) ∷ []) ≡ true
in_digits c =
    let high : is_plain (digit_of (c / 16 % 16)) ≡ true = plain_digit (c / 16 % 16) (omega arith) in
    let low : is_plain (digit_of (c % 16)) ≡ true = plain_digit (c % 16) (omega arith) in
    rw (high, low) refl

-- what stands for an octet is a piece
tame : (c : ℕ) → is_piece (piece_of c) ≡ true
tame c =
    both (c == 38) _ _ (λ _. refl) (λ amp.
    both (c == 60) _ _ (λ _. refl) (λ less.
    both (c == 62) _ _ (λ _. refl) (λ more.
    both (c == 34) _ _ (λ _. refl) (λ quote.
    both (c == 39) _ _ (λ _. refl) (λ tick.
    both (c == 10) _ _ (λ _. refl) (λ _.
    both (nat_le 32 c && nat_lt c 127) _ _ (λ printable. alone c amp less more quote tick printable) (λ _. in_digits c)))))))

-- what stands for octets are pieces
all_tame : (octets : List ℕ) → list_all is_piece (map piece_of octets) ≡ true
all_tame [] = refl
all_tame (c ∷ octets) = rw (tame c) (all_tame octets)

-- they are joined
joins : (octets : List ℕ) → flat_map piece_of octets ≡ flat_map (λ piece. piece) (map piece_of octets)
joins [] = refl
joins (c ∷ octets) = ap (λ rest. piece_of c ++ rest) (joins octets)

pub stays_text : (octets : List ℕ) → IsTame (escaped octets)
stays_text octets = record { pieces = map piece_of octets; joined = joins octets; tame = all_tame octets }

-- so does a text that is what stands for octets
pub tame_if : {V E : Type 0} (items : V → List ℕ) (octets : List ℕ) (r : Result V E) →
    IfOk r (λ text. items text ≡ escaped octets) → IfOk r (λ text. IsTame (items text))
tame_if items octets (Ok text) e = rw e (stays_text octets)
tame_if items octets (Err fault) e = tt

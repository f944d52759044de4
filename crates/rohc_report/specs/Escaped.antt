-- A text as a page has it. Words: digit_of, piece_of, escaped; is_plain, is_entity, is_piece; IsTame;
-- StaysText.
use Rattle.std.specs.Prelude.{◌≡◌, ℕ, ◌+◌, ◌/◌, ◌%◌, List, [], ◌∷◌, Bool, true, false, not, ◌&&◌, ◌||◌, ◌==◌, nat_le, nat_lt, if◌then◌else◌, codes}
use Rattle.std.specs.List.{flat_map, list_all}

-- a hexadecimal digit
abbrev pub digit_of : ℕ → ℕ
digit_of n = if nat_lt n 10 then 48 + n else 87 + n

-- what stands for an octet: an entity, a character of ASCII as it is, or `\x` and two digits
abbrev pub piece_of : ℕ → List ℕ
piece_of c =
    if c == 38 then codes "&amp;"
    else (if c == 60 then codes "&lt;"
    else (if c == 62 then codes "&gt;"
    else (if c == 34 then codes "&quot;"
    else (if c == 39 then codes "&#39;"
    else (if c == 10 then codes "&#10;"
    else (if nat_le 32 c && nat_lt c 127 then c ∷ []
    else 92 ∷ 120 ∷ digit_of (c / 16 % 16) ∷ digit_of (c % 16) ∷ []))))))

-- what stands for a text
abbrev pub escaped : List ℕ → List ℕ
escaped octets = flat_map piece_of octets

-- a printable character of ASCII that means nothing to a page: none of & < > " '
abbrev pub is_plain : ℕ → Bool
is_plain c =
    (nat_le 32 c && nat_lt c 127)
    && (not (c == 38) && (not (c == 60) && (not (c == 62) && (not (c == 34) && not (c == 39)))))

-- the two texts are the same
abbrev pub same : List ℕ → List ℕ → Bool
same [] [] = true
same [] (y ∷ ys) = false
same (x ∷ xs) [] = false
same (x ∷ xs) (y ∷ ys) = (x == y) && same xs ys

-- one of the six entities that are written
abbrev pub is_entity : List ℕ → Bool
is_entity text =
    same text (codes "&amp;") || (same text (codes "&lt;") || (same text (codes "&gt;")
    || (same text (codes "&quot;") || (same text (codes "&#39;") || same text (codes "&#10;")))))

-- an entity, or plain characters
abbrev pub is_piece : List ℕ → Bool
is_piece text = is_entity text || list_all is_plain text

-- A text that stays text in a page: nothing but plain characters and our entities. So it has no < > " ' and
-- no control character, and each & begins an entity.
pub record IsTame (text : List ℕ) : Type 0 where
  pub pieces : List (List ℕ)
  pub joined : text ≡ flat_map (λ piece. piece) pieces
  pub tame : list_all is_piece pieces ≡ true

-- Whatever the octets are, what stands for them stays text.
abbrev pub StaysText : Type 0
StaysText = (octets : List ℕ) → IsTame (escaped octets)

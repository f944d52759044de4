-- A decimal number at the start of a text. Words: is_canonical, IsNumberAt.
use Rattle.std.specs.Prelude.{◌≡◌, ℕ, ◌^◌, ◌<◌, List, [], ◌∷◌, ◌++◌, Bool, true, false, ◌&&◌, nat_le}
use Rattle.std.specs.Char.{is_ascii_digit}
use Rattle.std.specs.Fmt.{decimal}

-- the first octet is a decimal digit
abbrev pub begins_with_digit : List ℕ → Bool
begins_with_digit [] = false
begins_with_digit (octet ∷ octets) = is_ascii_digit octet

-- at least one digit, and no leading `0` before others
abbrev pub is_canonical : List ℕ → Bool
is_canonical [] = false
is_canonical (digit ∷ []) = true
is_canonical (digit ∷ next ∷ digits) = nat_le 49 digit && nat_le digit 57

-- the text is a number in decimal and a rest that doesn't start with a digit
pub record IsNumberAt (text : List ℕ) (number : ℕ) (rest : List ℕ) : Type 0 where
  pub fits : number < 2 ^ 64
  pub spelled : text ≡ decimal number ++ rest
  pub ends : begins_with_digit rest ≡ false

-- Self-describing values (RFC 3095 4.5.6).
use Rattle.std.specs.Prelude.{◌≡◌, ℕ, ◌⊎◌, Bool, true, false, List, [], ◌∷◌, ◌++◌, length, All}
use Rattle.rohc_bits.specs.Bits.{IsOctet, bits_of, number}

-- The bits of the text are these first bits, and after them `count` bits that stand for the value.
pub record StandsBehind (first : List Bool) (count : ℕ) (text : List ℕ) (value : ℕ) : Type 0 where
  pub digits : List Bool
  pub whole : bits_of text ≡ first ++ digits
  pub counted : length digits ≡ count
  pub number : value ≡ number digits

-- The first bits are 0, 10, 110 or 111, and 7, 14, 21 or 29 bits of the value follow.
abbrev pub Spells : List ℕ → ℕ → Type 0
Spells text value =
    StandsBehind (false ∷ []) 7 text value ⊎
    StandsBehind (true ∷ false ∷ []) 14 text value ⊎
    StandsBehind (true ∷ true ∷ false ∷ []) 21 text value ⊎
    StandsBehind (true ∷ true ∷ true ∷ []) 29 text value

-- The text is octets that encode the value.
pub record IsSpelled (text : List ℕ) (value : ℕ) : Type 0 where
  pub octets : All IsOctet text
  pub spells : Spells text value

-- two prefixes of one text that encode values are equal, and so are the values
abbrev pub FrontsAgree : Type 0
FrontsAgree = (a b x y : List ℕ) (v w : ℕ) →
    a ++ x ≡ b ++ y → IsSpelled a v → IsSpelled b w → (a ≡ b) × (v ≡ w)

-- Fields of feedback, and the octets that encode them.
use Rattle.std.specs.Prelude.{ℕ, List, [], ◌∷◌, ◌++◌, Bool}
use Rattle.rohc_bits.specs.Bits.{bits, number}

-- A field's name, and the number in it: fixed bits, by which octets are told apart; the Code of a feedback
-- element; a small CID; the fields of FEEDBACK-2; the type and the length of an option, and the check in the
-- CRC option.
pub data Field : Type 0 where
  Fixed : ℕ → Field
  Code : ℕ → Field
  Cid : ℕ → Field
  Acktype : ℕ → Field
  Mode : ℕ → Field
  Sn : ℕ → Field
  OptType : ℕ → Field
  OptLength : ℕ → Field
  Crc : ℕ → Field

abbrev pub number_in : Field → ℕ
number_in (Fixed n) = n
number_in (Code n) = n
number_in (Cid n) = n
number_in (Acktype n) = n
number_in (Mode n) = n
number_in (Sn n) = n
number_in (OptType n) = n
number_in (OptLength n) = n
number_in (Crc n) = n

-- fields in order, and how many bits each has
abbrev pub Fields : Type 0
Fields = List (Field × ℕ)

-- the bits of fields, each field's most significant first
abbrev pub bits_in : Fields → List Bool
bits_in [] = []
bits_in ((field, width) ∷ more) = bits width (number_in field) ++ bits_in more

-- eight bits are an octet
abbrev pub octets_in : List Bool → List ℕ
octets_in (a ∷ b ∷ c ∷ d ∷ e ∷ f ∷ g ∷ h ∷ more) =
    number (a ∷ b ∷ c ∷ d ∷ e ∷ f ∷ g ∷ h ∷ []) ∷ octets_in more
octets_in fewer = []

-- the octets that encode these fields
unfoldable pub spelled : Fields → List ℕ
spelled fields = octets_in (bits_in fields)

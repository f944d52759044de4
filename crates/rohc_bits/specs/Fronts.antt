-- Self-describing values at the start of a text, read from left to right (RFC 3095 4.5.6).
use Rattle.std.specs.Prelude.{◌≡◌, ◌<◌, ◌≤◌, ◌↔◌, All, length, take, drop, ℕ, ◌-◌, ◌*◌, ◌^◌, Bool, true, false, List, ◌∷◌, ◌==◌, nat_le, if◌then◌else◌, Option, Some, None}
use Rattle.rohc_bits.specs.Bits.{IsOctet, bits_of, number}
use Rattle.rohc_bits.specs.Spelling.{IsSpelled}

-- how many octets a value has, by its first bits
abbrev pub octets_said : List Bool → ℕ
octets_said (true ∷ true ∷ true ∷ bits) = 4
octets_said (true ∷ true ∷ false ∷ bits) = 3
octets_said (true ∷ false ∷ bits) = 2
octets_said bits = 1

-- how many bits of value this many octets have
abbrev pub value_bits : ℕ → ℕ
value_bits count = if count == 1 then 7 else if count == 2 then 14 else if count == 3 then 21 else 29

-- the value in this many octets, if there are as many: it is their last bits
abbrev pub value_of : (count : ℕ) (text : List ℕ) → Option (ℕ × ℕ)
value_of count text =
    if nat_le count (length text)
    then Some (number (drop (8 * count - value_bits count) (bits_of (take count text))), count)
    else None

-- The value at the start of a text, with the number of its octets, if there is one. A law says that it is the
-- value that a prefix of the text encodes.
unfoldable pub front_value : List ℕ → Option (ℕ × ℕ)
front_value text = value_of (octets_said (bits_of text)) text

-- what is read at the start of octets is exactly the value that a prefix of them encodes
abbrev pub FrontIsSpelled : Type 0
FrontIsSpelled = (text : List ℕ) (value count : ℕ) → All IsOctet text →
    (front_value text ≡ Some (value, count)) ↔ ((count ≤ length text) × IsSpelled (take count text) value)

-- one to four octets encode exactly the values of as many bits as `value_bits` gives
abbrev pub EachValueOfItsBits : Type 0
EachValueOfItsBits = (count value : ℕ) → 1 ≤ count → count ≤ 4 →
    ((text : List ℕ) × (length text ≡ count) × IsSpelled text value) ↔ (value < 2 ^ value_bits count)

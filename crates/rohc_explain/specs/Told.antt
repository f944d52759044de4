-- Fields as they are told. Words: number_at, StandsInPlace, are_in_turn.
use Rattle.std.specs.Prelude.{◌≡◌, ℕ, ◌+◌, List, [], ◌∷◌, take, drop, Bool, ◌==◌, ◌&&◌}
use Rattle.rohc_bits.specs.Bits.{bits_of, number}
use Rattle.rohc_explain.specs.declared.field.Field.{Field}

-- the number that so many bits from a place on stand for
abbrev pub number_at : List ℕ → ℕ → ℕ → ℕ
number_at octets first count = number (take count (drop first (bits_of octets)))

-- a field's number is the one of the bits in its place
abbrev pub StandsInPlace : List ℕ → Field → Type 0
StandsInPlace octets f = f.value ≡ number_at octets f.first f.count

-- the first field begins at this bit, each other one where the one before it ends, and the last ends at that
-- bit: no bit between the two is in no field, or in two
abbrev pub are_in_turn : ℕ → List Field → ℕ → Bool
are_in_turn first [] behind = first == behind
are_in_turn first (f ∷ more) behind = (f.first == first) && are_in_turn (first + f.count) more behind

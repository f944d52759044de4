-- The places of fields in octets, for those who show packets.
use Rattle.std.specs.Prelude.{ℕ, zero, suc, ◌+◌, ◌-◌, ◌*◌, ◌/◌, ◌%◌, ◌^◌, List, [], ◌∷◌, ◌++◌, length, take, drop, if◌then◌else◌, Result, Ok, Err}
use Rattle.rohc_bits.specs.Bits.{bits_of, number}
use Rattle.rohc_bits.specs.Grammar.{Piece, Octet, Word, Value, Says, Then, IfNamed, Which, As, Judged, Unless, Called, Row, reads}

-- A field's name, its first bit, and how many bits it has.
pub record Place (N : Type 0) : Type 0 where
  pub name : N
  pub first_bit : ℕ
  pub count : ℕ

-- fields one after the other, from this bit on
abbrev pub row_places : {N : Type 0} → ℕ → List (N × ℕ) → List (Place N)
row_places first [] = []
row_places first ((name, count) ∷ more) =
    record { name = name; first_bit = first; count = count } ∷ row_places (first + count) more

-- one field of this many octets, if there are any
abbrev pub place_of : {N : Type 0} → N → ℕ → ℕ → List (Place N)
place_of name at zero = []
place_of name at (suc octets) = record { name = name; first_bit = 8 * at; count = 8 * suc octets } ∷ []

-- the places in what was read, if it was
abbrev pub places_in : {N E A : Type 0} → Result (A × List ℕ) E → (A → List ℕ → List (Place N)) →
    List (Place N)
places_in (Ok x) f = f x.0 x.1
places_in (Err refusal) f = []

-- The fields of a piece that starts at this octet: their places, up to the first fault.
abbrev pub places : {N E A : Type 0} → E → Piece N E A → ℕ → List ℕ → List (Place N)
places short Octet at text = []
places short Word at text = []
places short Value at text = []
places short (Says x) at text = []
places short (Then first more) at text =
    places short first at text ++ places_in (reads short first text)
    (λ x behind. places short (more x) (at + (length text - length behind)) behind)
places short (IfNamed named piece) at text = if named then places short piece at text else []
places short (Which test first other) at text =
    if test then places short first at text else places short other at text
places short (As f piece) at text = places short piece at text
places short (Judged fault piece) at text = places short piece at text
places short (Unless fault piece) at text = places short piece at text
places short (Called name piece) at text =
    places_in (reads short piece text) (λ x behind. place_of name at (length text - length behind))
places short (Row fields piece) at text =
    places_in (reads short piece text) (λ x behind. row_places (8 * at) (fields x))

-- a field's name, with the number that stands at its place
abbrev pub shown_at : {N : Type 0} → List ℕ → Place N → N × ℕ
shown_at octets place =
    (place.name, number (take place.count (drop place.first_bit (bits_of octets))))

-- how many bits fields have
abbrev pub widths : {N : Type 0} → List (N × ℕ) → ℕ
widths [] = 0
widths ((name, count) ∷ more) = count + widths more

-- the numbers that fields cut a number into, the most significant first
abbrev pub cut : {N : Type 0} → List (N × ℕ) → ℕ → List (N × ℕ)
cut [] n = []
cut ((name, count) ∷ more) n = (name, n / 2 ^ widths more % 2 ^ count) ∷ cut more n

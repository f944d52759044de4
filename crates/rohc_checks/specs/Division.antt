-- Checks by polynomial division, over whole lists of bits (RFC 3095 5.9).
use Rattle.std.specs.Prelude.{◌≡◌, ◌==◌, ℕ, zero, suc, ◌+◌, ◌-◌, ◌*◌, ◌/◌, ◌%◌, Bool, true, false, if◌then◌else◌, List, [], ◌∷◌, ◌++◌, length, map, drop, replicate}
use Rattle.std.specs.List.{flat_map, range_with_len}
use Rattle.std.proofs.Math.Bool.{xor}

-- the k least significant bits of a number, least significant first
unfoldable pub bits : ℕ → ℕ → List Bool
bits zero n = []
bits (suc k) n = (n % 2 == 1) ∷ bits k (n / 2)

-- the number that bits stand for, least significant first
unfoldable pub number : List Bool → ℕ
number [] = 0
number (b ∷ bs) = (if b then 1 else 0) + 2 * number bs

-- the bits of a text, octet by octet
abbrev pub message : List ℕ → List Bool
message octets = flat_map (bits 8) octets

-- a polynomial by its coefficients, highest power first: 1 + x + x^3
unfoldable pub poly3 : List Bool
poly3 = true ∷ false ∷ true ∷ true ∷ []

-- 1 + x + x^2 + x^3 + x^6 + x^7
unfoldable pub poly7 : List Bool
poly7 = true ∷ true ∷ false ∷ false ∷ true ∷ true ∷ true ∷ true ∷ []

-- 1 + x + x^2 + x^8
unfoldable pub poly8 : List Bool
poly8 = true ∷ false ∷ false ∷ false ∷ false ∷ false ∷ true ∷ true ∷ true ∷ []

-- the highest power of a polynomial
abbrev pub degree : List Bool → ℕ
degree poly = length poly - 1

-- a polynomial of degree n: its highest coefficient is 1, and n lower ones follow
abbrev pub HasDegree : ℕ → List Bool → Type 0
HasDegree n [] = ⊥
HasDegree n (highest ∷ lower) = (highest ≡ true) × (length lower ≡ n)

-- xs added without carry to the first places of ys
unfoldable pub add_front : List Bool → List Bool → List Bool
add_front [] ys = ys
add_front (x ∷ xs) [] = []
add_front (x ∷ xs) (y ∷ ys) = xor x y ∷ add_front xs ys

-- The first k places are dropped one after the other. If a dropped place was 1, the lower coefficients are
-- added to the places after it.
unfoldable pub divided : List Bool → ℕ → List Bool → List Bool
divided lower zero places = places
divided lower (suc k) [] = []
divided lower (suc k) (false ∷ places) = divided lower k places
divided lower (suc k) (true ∷ places) = divided lower k (add_front lower places)

-- What is left when there are no more places than the degree.
unfoldable pub remainder : List Bool → List Bool → List Bool
remainder poly places = divided (drop 1 poly) (length places - degree poly) places

-- The check. The dividend is the message, followed by as many zeros as the degree, with the register added to
-- its first places.
unfoldable pub check : List Bool → ℕ → List ℕ → ℕ
check poly reg octets =
    number (remainder poly (add_front (bits (degree poly) reg)
    (message octets ++ replicate (degree poly) false)))

-- The table for look-ups: the checks of all 256 octets, each from register 0.
unfoldable pub table_of : List Bool → List ℕ
table_of poly =
    map (λ octet. number (remainder poly (bits 8 octet ++ replicate (degree poly) false)))
    (range_with_len 0 256)

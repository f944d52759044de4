-- Octets, and bits as truth values, most significant first.
use Rattle.std.specs.Prelude.{◌==◌, ℕ, zero, suc, ◌+◌, ◌/◌, ◌%◌, ◌^◌, ◌<◌, ◌-◌, Bool, if◌then◌else◌, List, [], ◌∷◌, length, drop}
use Rattle.std.specs.List.{flat_map}

-- an octet is a number of eight bits
abbrev pub IsOctet : ℕ → Type 0
IsOctet n = n < 256

-- the k low bits of a number
unfoldable pub bits : (k n : ℕ) → List Bool
bits zero n = []
bits (suc k) n = (n / 2 ^ k % 2 == 1) ∷ bits k n

-- the number that bits stand for
unfoldable pub number : List Bool → ℕ
number [] = 0
number (b ∷ bs) = (if b then 2 ^ length bs else 0) + number bs

-- the bits of a text, octet by octet
abbrev pub bits_of : List ℕ → List Bool
bits_of text = flat_map (bits 8) text

-- the last k of a list, or all where there are fewer
abbrev pub last_of : {A : Type 0} → ℕ → List A → List A
last_of k xs = drop (length xs - k) xs

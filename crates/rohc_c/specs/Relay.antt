-- Feedback in a packet for this side's compressor, as C reads it. Words: told; FitsInRoom.
use Rattle.std.specs.Prelude.{ℕ, ◌<◌, ◌≤◌, List, [], ◌∷◌, ◌++◌, length, All}

-- the data of each element, after one octet that counts it
abbrev pub told : List (List ℕ) → List ℕ
told [] = []
told (octets ∷ elements) = length octets ∷ octets ++ told elements

-- one octet can count each element's data, and there is room for all these octets
pub record FitsInRoom (elements : List (List ℕ)) (room : ℕ) : Type 0 where
  pub short : All (λ octets. length octets < 256) elements
  pub within : length (told elements) ≤ room

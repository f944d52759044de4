-- The first of the least numbers. Words: IsFirstLeast; IsOneLeast.
use Rattle.std.specs.Prelude.{◌≡◌, ℕ, List, get_or, ◌<◌, ◌≤◌}

-- Among so many numbers from the front, the first of the least stands at this place.
pub record IsFirstLeast (numbers : List ℕ) (count place : ℕ) : Type 0 where
  pub within : place < count
  pub least : (other : ℕ) → other < count → get_or numbers place 0 ≤ get_or numbers other 0
  pub first : (other : ℕ) → other < place → get_or numbers place 0 < get_or numbers other 0

-- there is one such place
abbrev pub IsOneLeast : Type 0
IsOneLeast = (numbers : List ℕ) (count p q : ℕ) → IsFirstLeast numbers count p →
    IsFirstLeast numbers count q → p ≡ q

-- The name that a misspelled one may have meant. Words: edits; IsFirstNearest, IsNearest; IsOneNearest.
use Rattle.std.specs.Prelude.{◌≡◌, ◌≤◌, ◌<◌, ℕ, List, length, take, slice_get, nat_eq, Option, Some, None, All}
use Rattle.std.specs.Str.{chars}
use Rattle.strsim.specs.Edits.{levenshtein_row}

-- how many edits lead from one name to another
abbrev pub edits : List ℕ → List ℕ → ℕ
edits name other = levenshtein_row nat_eq (chars name) (chars other) (length (chars other))

-- the first of the known names to which the fewest edits lead, at most three
pub record IsFirstNearest {X : Type 0} (text : X → List ℕ) (name : List ℕ) (known : List X) (near : X) :
    Type 0 where
  pub place : ℕ
  pub there : slice_get known place ≡ Some near
  pub few : edits name (text near) ≤ 3
  pub least : All (λ other. edits name (text near) ≤ edits name (text other)) known
  pub first : All (λ other. edits name (text near) < edits name (text other)) (take place known)

-- the known name that was found, or none if more than three edits lead to each
abbrev pub IsNearest : {X : Type 0} → (X → List ℕ) → List ℕ → List X → Option X → Type 0
IsNearest text name known None = All (λ other. 3 < edits name (text other)) known
IsNearest text name known (Some near) = IsFirstNearest text name known near

-- for a name and some known names there is one answer
abbrev pub IsOneNearest : Type 0
IsOneNearest = (name : List ℕ) (known : List (List ℕ)) (a b : Option (List ℕ)) →
    IsNearest (λ other. other) name known a → IsNearest (λ other. other) name known b → a ≡ b

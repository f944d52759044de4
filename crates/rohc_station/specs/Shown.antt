-- A name as a page has it. Words: piece_of, shown; IsTameName; NamesStayText.
use Rattle.std.specs.Prelude.{◌≡◌, ◌⊎◌, ℕ, List, [], ◌∷◌, true, nat_le, if◌then◌else◌}
use Rattle.std.specs.List.{AllByRecursion, flat_map, list_all}
use Rattle.rohc_report.specs.Escaped.{escaped, IsTame}

-- what stands for an octet: of a character beyond ASCII the octet, and otherwise what stands for it in any
-- text
abbrev pub piece_of : ℕ → List ℕ
piece_of c = if nat_le 128 c then c ∷ [] else escaped (c ∷ [])

-- what stands for a name
abbrev pub shown : List ℕ → List ℕ
shown octets = flat_map piece_of octets

-- A name that stays text in a page: pieces that stay text there, and octets of characters beyond ASCII, which
-- mean nothing to a page.
pub record IsTameName (text : List ℕ) : Type 0 where
  pub pieces : List (List ℕ)
  pub joined : text ≡ flat_map (λ piece. piece) pieces
  pub tame : AllByRecursion (λ piece. IsTame piece ⊎ (list_all (nat_le 128) piece ≡ true)) pieces

-- Whatever the octets of a name are, what stands for them stays text.
abbrev pub NamesStayText : Type 0
NamesStayText = (octets : List ℕ) → IsTameName (shown octets)

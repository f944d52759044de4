-- What stands for a name stays text.
use Rattle.std.proofs.Common.{◌≡◌, ◌⊎◌, inl, inr, ℕ, List, [], ◌∷◌, ◌++◌, Bool, true, false, nat_le, if◌then◌else◌, map, refl, ap}
use Rattle.std.specs.List.{AllByRecursion, flat_map, list_all}
use Rattle.rohc_report.specs.Escaped.{escaped, IsTame}
use Rattle.rohc_report.proofs.EscapedLemmas.{stays_text}
use Rattle.rohc_station.specs.Shown.{piece_of, shown, IsTameName}

abbrev IsTamePiece : List ℕ → Type 0
IsTamePiece piece = IsTame piece ⊎ (list_all (nat_le 128) piece ≡ true)

-- what stands for an octet stays text
tame : (c : ℕ) → IsTamePiece (piece_of c)
tame c = by (nat_le 128 c) refl
  where
    by : (b : Bool) → nat_le 128 c ≡ b → IsTamePiece (if b then c ∷ [] else escaped (c ∷ []))
    by true is = inr (rw is refl)
    by false is = inl (stays_text (c ∷ []))

all_tame : (octets : List ℕ) → AllByRecursion IsTamePiece (map piece_of octets)
all_tame [] = tt
all_tame (c ∷ octets) = (tame c, all_tame octets)

joins : (octets : List ℕ) → flat_map piece_of octets ≡ flat_map (λ piece. piece) (map piece_of octets)
joins [] = refl
joins (c ∷ octets) = ap (λ rest. piece_of c ++ rest) (joins octets)

pub names_stay_text : (octets : List ℕ) → IsTameName (shown octets)
names_stay_text octets = record { pieces = map piece_of octets; joined = joins octets; tame = all_tame octets }

-- Fields in turn.
use Rattle.std.proofs.Common.{◌≡◌, true, ℕ, ◌+◌, List, [], ◌∷◌, ◌++◌, sym, ap, subst, ◌∙◌, arith}
use Rattle.std.specs.Prelude.{All}
use Rattle.std.proofs.lemmas.List.Elements.{All-append, All-cons}
use Rattle.rohc_explain.specs.declared.field.Field.{Field}
use Rattle.rohc_explain.specs.Told.{StandsInPlace, are_in_turn}

in_turn-append : (first : ℕ) (fields : List Field) (behind : ℕ) (f : Field) → are_in_turn first fields behind ≡ true → f.first ≡ behind →
    are_in_turn first (fields ++ f ∷ []) (behind + f.count) ≡ true
in_turn-append first [] behind f follow e = grind (arith, follow, e)
in_turn-append first (g ∷ more) behind f follow e = grind (arith, follow, e, in_turn-append (first + g.count) more behind f)

pub stay_in_turn : (fields new : List Field) (f : Field) (at behind : ℕ) → are_in_turn 0 fields at ≡ true → new ≡ fields ++ f ∷ [] → f.first ≡ at → behind ≡ at + f.count →
    are_in_turn 0 new behind ≡ true
stay_in_turn fields new f at behind turn e here there =
    ap (λ (xs : List Field). are_in_turn 0 xs behind) e ∙ ap (λ n. are_in_turn 0 (fields ++ f ∷ []) n) there ∙ in_turn-append 0 fields at f turn here

pub stay_in_place : (octets : List ℕ) (fields new : List Field) (f : Field) → All (StandsInPlace octets) fields → new ≡ fields ++ f ∷ [] → StandsInPlace octets f →
    All (StandsInPlace octets) new
stay_in_place octets fields new f all e stands =
    subst (λ (xs : List Field). All (StandsInPlace octets) xs) (sym e) (All-append (StandsInPlace octets) fields (f ∷ []) all (All-cons (StandsInPlace octets) f [] stands (λ i d l. absurd (omega arith))))

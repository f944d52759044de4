-- How many items an array has, and how many of them are read.
use Rattle.std.proofs.Common.{◌≡◌, ℕ, ◌<◌, List, [], ◌∷◌, length, Option, Some, None, suc, refl, ap, arith}
use Rattle.std.proofs.lemmas.Bool.Decides.{nat_tests}
use Rattle.std.specs.Option.{option_and_then}
use Rattle.rohc_concentrator.specs.declared.setting.CidRange.{CidRange}
use Rattle.toml.specs.Data.{Data, array}
use Rattle.toml.specs.View.{view, items_view}
use Rattle.toml.specs.declared.value.Value.{Value}
use Rattle.rohc_links.specs.Ranges.{read_each, range, at_most, ranges}

-- all of them are read, or none is
abbrev CountIs : {A : Type 0} → ℕ → Option (List A) → Type 0
CountIs n None = Unit {0}
CountIs n (Some xs) = length xs ≡ n

cons_count : {A : Type 0} (n : ℕ) (first : Option A) (others : Option (List A)) → CountIs n others → CountIs (suc n) (option_and_then (λ x. option_and_then (λ xs. Some (x ∷ xs)) others) first)
cons_count n None others counted = tt
cons_count n (Some x) None counted = tt
cons_count n (Some x) (Some xs) counted = ap suc counted

each_count : {A : Type 0} (read : Data → Option A) (vs : List Value) → CountIs (length vs) (read_each read (items_view vs))
each_count read [] = refl
each_count read (v ∷ vs) = cons_count (length vs) (read (view v)) (read_each read (items_view vs)) (each_count read vs)

limited : (o : Option (List CidRange)) (n : ℕ) → 8 < n → CountIs n o → option_and_then (at_most 8) o ≡ None
limited None n many counted = refl
limited (Some all) n many counted = grind (arith, nat_tests)

-- more than eight are no ranges
pub ranges_too_many : (vs : List Value) → 8 < length vs → ranges (array (items_view vs)) ≡ None
ranges_too_many vs many = limited (read_each range (items_view vs)) (length vs) many (each_count range vs)

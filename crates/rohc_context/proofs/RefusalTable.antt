-- The table of refusals. What a test says of each of the thirty it says of every refusal, so that a proof needs no
-- line for each.
use Rattle.std.proofs.Common.{◌≡◌, ℕ, zero, suc, ◌+◌, ◌-◌, ◌≤◌, List, [], ◌∷◌, Bool, true, false, ◌&&◌, ◌||◌, ◌==◌, not, Option, Some, None, refl, sym, ap, subst, ◌∙◌, rules, arith, eqb-true}
use Rattle.std.specs.Prelude.{slice_get, get_or, IfSome}
use Rattle.std.proofs.lemmas.Option.{slice_get-get_or}
use Rattle.std.proofs.lemmas.Slice.Eq.{bytes_eq-Decides}
use Rattle.std.specs.List.{list_all}
use Rattle.std.specs.Str.{bytes_eq}
use Rattle.rohc_context.specs.declared.refusal.Refusal.{Refusal}
use Rattle.rohc_context.specs.declared.refusal.TheConstants.{ALL}
use Rattle.rohc_context.specs.declared.refusal.Refusal.TheVariants.{Empty}
use Rattle.rohc_context.specs.Refusal.{number_of, name_of, StandAtNumbers}
use Rattle.rohc_context.specs.RefusalLaws.{HasNumbers, NumbersDiffer, NamesDiffer}

-- each stands at its number
pub stand_at_numbers : StandAtNumbers ALL
stand_at_numbers = search rules

both : (a b : Bool) → (a && b) ≡ true → (a ≡ true) × (b ≡ true)
both true b e = (refl, e)
both false b e = absurd cc

at_place : (p : Refusal → Bool) (rs : List Refusal) (k : ℕ) (r : Refusal) → list_all p rs ≡ true → slice_get rs k ≡ Some r → p r ≡ true
at_place p [] k r all at = absurd cc
at_place p (x ∷ rs) zero r all at = let same : ◌≡◌ {A = Option Refusal} (Some x) (Some r) = at in let e : x ≡ r = cc in subst (λ q. p q ≡ true) e (both (p x) (list_all p rs) all).0
at_place p (x ∷ rs) (suc k) r all at = at_place p rs k r (both (p x) (list_all p rs) all).1 at

-- a test that each in the list passes is passed by every refusal
pub each_refusal : (p : Refusal → Bool) → list_all p ALL ≡ true → (r : Refusal) → p r ≡ true
each_refusal p all r = at_place p ALL (number_of r - 1) r all (stand_at_numbers r)

-- the numbers of the refusals in a list count up from here
abbrev count_up : ℕ → List Refusal → Bool
count_up n [] = true
count_up n (r ∷ rs) = (number_of r == n) && count_up (n + 1) rs

counted : (n : ℕ) (rs : List Refusal) (k : ℕ) (r : Refusal) → count_up n rs ≡ true → slice_get rs k ≡ Some r → number_of r ≡ n + k
counted n [] k r all at = absurd cc
counted n (x ∷ rs) zero r all at =
    let same : ◌≡◌ {A = Option Refusal} (Some x) (Some r) = at in
    let e : x ≡ r = cc in
    let number : number_of x ≡ n = eqb-true (number_of x) n (both (number_of x == n) (count_up (n + 1) rs) all).0 in
    sym (ap number_of e) ∙ number ∙ omega arith
counted n (x ∷ rs) (suc k) r all at =
    counted (n + 1) rs k r (both (number_of x == n) (count_up (n + 1) rs) all).1 at ∙ omega arith

-- the refusal at a place has the number after it
pub number_at : (k : ℕ) (r : Refusal) → slice_get ALL k ≡ Some r → number_of r ≡ k + 1
number_at k r at = counted 1 ALL k r refl at ∙ omega arith

from_1_to_30 : (r : Refusal) → (1 ≤ number_of r) × (number_of r ≤ 30)
from_1_to_30 r = search rules

named : (n : ℕ) → (1 ≤ n) × (n ≤ 30) → (r : Refusal) × (number_of r ≡ n)
named n within =
    let at : slice_get ALL (n - 1) ≡ Some (get_or ALL (n - 1) Empty) = slice_get-get_or ALL (n - 1) Empty (omega (arith, within.0, within.1)) in
    let number = number_at (n - 1) (get_or ALL (n - 1) Empty) at in
    (get_or ALL (n - 1) Empty, omega (arith, number, within.0))

pub has_numbers : HasNumbers
has_numbers n = (named n, λ found. subst (λ m. (1 ≤ m) × (m ≤ 30)) found.1 (from_1_to_30 found.0))

pub numbers_differ : NumbersDiffer
numbers_differ q r e =
    let at : ◌≡◌ {A = Option Refusal} (Some q) (Some r) = sym (stand_at_numbers q) ∙ ap (λ n. slice_get ALL (n - 1)) e ∙ stand_at_numbers r in cc

-- the refusal that is found by a number has it
pub found_named : (n k : ℕ) (found : Option Refusal) → 1 ≤ n → k ≡ n - 1 → found ≡ slice_get ALL k → IfSome found (λ r. number_of r ≡ n)
found_named n k None some place at = tt
found_named n k (Some r) some place at = number_at k r (sym at) ∙ omega arith

-- no other refusal has the name
abbrev has_own_name : Refusal → Refusal → Bool
has_own_name q r = (number_of q == number_of r) || not (bytes_eq (name_of q) (name_of r))

own_names : (q r : Refusal) → has_own_name q r ≡ true
own_names q r = each_refusal (has_own_name q) (each_refusal (λ q. list_all (has_own_name q) ALL) refl q) r

pub names_differ : NamesDiffer
names_differ q r e = numbers_differ q r (eqb-true (number_of q) (number_of r) (same (number_of q == number_of r) (bytes_eq (name_of q) (name_of r)) (own_names q r) equal)) where
  same : (a b : Bool) → (a || not b) ≡ true → b ≡ true → a ≡ true
  same true b own is = refl
  same false true own is = own
  same false false own is = is

  equal : bytes_eq (name_of q) (name_of r) ≡ true
  equal = (bytes_eq-Decides (name_of q) (name_of r)).1 e

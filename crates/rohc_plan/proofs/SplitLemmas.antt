-- There is one place of the first of the least numbers.
use Rattle.std.proofs.Common.{◌≡◌, ◌<◌, ◌≤◌, ℕ, List, ⊎_elim, arith}
use Rattle.std.specs.Prelude.{get_or}
use Rattle.std.proofs.lemmas.Bool.{cases_lt}
use Rattle.rohc_plan.specs.Split.{IsFirstLeast, IsOneLeast}

-- of two such places neither stands before the other
not_before : (numbers : List ℕ) (count p q : ℕ) → IsFirstLeast numbers count p → IsFirstLeast numbers count q → p < q → ⊥
not_before numbers count p q first second less = omega (arith, second.first p less, first.least q second.within)

pub one_least : IsOneLeast
one_least numbers count p q first second = ⊎_elim
    (λ (less : p < q). absurd (not_before numbers count p q first second less))
    (λ (as_far : q ≤ p). ⊎_elim
    (λ (less : q < p). absurd (not_before numbers count q p second first less))
    (λ (near : p ≤ q). omega (arith, as_far, near))
    (cases_lt q p))
    (cases_lt p q)

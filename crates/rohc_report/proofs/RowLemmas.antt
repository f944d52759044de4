-- A list up to a place, and one more.
use Rattle.std.proofs.Common.{◌≡◌, ℕ, zero, suc, arith, ◌+◌, List, [], ◌∷◌, ◌++◌, map, take, slice_get, Some, None, sym, ◌∙◌, ap}
use Rattle.std.proofs.lemmas.List.{map-append, take_all}

take_one : {X : Type 0} (xs : List X) (k : ℕ) (x : X) → slice_get xs k ≡ Some x → take (k + 1) xs ≡ take k xs ++ x ∷ []
take_one [] k x e = cc
take_one (y ∷ ys) zero x e = let same : y ≡ x = cc in ap (λ z. z ∷ []) same
take_one (y ∷ ys) (suc k) x e = let step : suc k + 1 ≡ suc (k + 1) = omega arith in rw step (ap (λ t. y ∷ t) (take_one ys k x e))

pub take_none : {X : Type 0} (xs : List X) (k : ℕ) → slice_get xs k ≡ None → take (k + 1) xs ≡ take k xs
take_none [] k e = take_all (k + 1) [] (omega arith) ∙ sym (take_all k [] (omega arith))
take_none (y ∷ ys) zero e = cc
take_none (y ∷ ys) (suc k) e = let step : suc k + 1 ≡ suc (k + 1) = omega arith in rw step (ap (λ t. y ∷ t) (take_none ys k e))

pub map_one : {X Y : Type 0} (f : X → Y) (xs : List X) (k : ℕ) (x : X) → slice_get xs k ≡ Some x →
    map f (take k xs) ++ f x ∷ [] ≡ map f (take (k + 1) xs)
map_one f xs k x e = sym (map-append f (take k xs) (x ∷ [])) ∙ ap (map f) (sym (take_one xs k x e))

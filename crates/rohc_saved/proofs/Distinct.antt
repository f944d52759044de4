-- Numbers that are apart.
use Rattle.std.proofs.Common.{◌≡◌, ◌≢◌, ℕ, ◌<◌, suc, List, [], ◌∷◌, ◌++◌, map, length, Bool, true, false, refl, arith, nat_eq}
use Rattle.std.specs.Prelude.{AllPairs, ◌||◌, slice_index_or}
use Rattle.std.specs.List.{AllByRecursion, IsDistinct, list_any}
use Rattle.std.proofs.lemmas.Bool.Decides.{nat_tests}
use Rattle.rohc_concentrator.specs.declared.setting.LinkSetting.{LinkSetting}

pub distinct_none : IsDistinct nat_eq []
unfolding IsDistinct
distinct_none = tt

-- a number that isn't listed may come behind distinct ones
apart_more : (n cid : ℕ) (xs : List ℕ) → AllByRecursion (λ y. nat_eq n y ≡ false) xs → nat_eq n cid ≡ false → AllByRecursion (λ y. nat_eq n y ≡ false) (xs ++ cid ∷ [])
apart_more n cid [] all other = (other, tt)
apart_more n cid (x ∷ xs) all other = (all.0, apart_more n cid xs all.1 other)

either_false : (a b : Bool) → (a || b) ≡ false → (a ≡ false) × (b ≡ false)
either_false false false e = (refl, refl)
either_false false true e = cc
either_false true b e = cc

pub distinct_more : (cid : ℕ) (xs : List ℕ) → IsDistinct nat_eq xs → list_any (nat_eq cid) xs ≡ false → IsDistinct nat_eq (xs ++ cid ∷ [])
unfolding IsDistinct
distinct_more cid [] distinct none = (tt, tt)
distinct_more cid (x ∷ xs) distinct none =
    let parts = either_false (nat_eq cid x) (list_any (nat_eq cid) xs) none in
    let other : nat_eq x cid ≡ false = let apart = parts.0 in grind (arith, nat_tests, apart) in
    (apart_more x cid xs distinct.0 other, distinct_more cid xs distinct.1 parts.1)

-- the numbers of links
abbrev pub numbers : List LinkSetting → List ℕ
numbers ss = map (λ (s : LinkSetting). s.link) ss

others_apart : (n : ℕ) (ss : List LinkSetting) → ((j : ℕ) (d : LinkSetting) → j < length ss → n ≢ (slice_index_or ss j d).link) → AllByRecursion (λ y. nat_eq n y ≡ false) (numbers ss)
others_apart n [] h = tt
others_apart n (s ∷ ss) h = (let other : n ≢ s.link = h 0 s (omega arith) in grind (arith, nat_tests, other), others_apart n ss (λ j d within. h (suc j) d (omega arith)))

pub links_apart : (ss : List LinkSetting) → AllPairs (λ (s t : LinkSetting). s.link ≢ t.link) ss → IsDistinct nat_eq (numbers ss)
unfolding IsDistinct
links_apart [] h = tt
links_apart (s ∷ ss) h =
    (others_apart s.link ss (λ j d within. h 0 (suc j) d (omega arith) (omega arith)), links_apart ss (λ i j d below within. h (suc i) (suc j) d (omega arith) (omega arith)))

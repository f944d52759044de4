-- The nearest name so far, and one name more; and that there is one answer.
use Rattle.std.proofs.Common.{◌≡◌, ◌<◌, ◌≤◌, ◌++◌, ◌∷◌, [], ℕ, zero, suc, List, length, take, Option, Some, None, Bool, true, false, ⊎_elim, ap, sym, subst, arith, refl, ◌∙◌}
use Rattle.std.proofs.lemmas.List.{take-append-le}
use Rattle.std.proofs.lemmas.List.Elements.{All-push, All-head, All-tail}
use Rattle.std.proofs.lemmas.Option.{slice_get_within}
use Rattle.std.proofs.lemmas.Bool.{cases_lt}
use Rattle.std.proofs.Math.Seq.{take-append_seam}
use Rattle.std.proofs.lemmas.Bool.Decides.{nat_tests}
use Rattle.std.specs.Prelude.{nat_lt, if◌then◌else◌, All, slice_get}
use Rattle.rohc_text.specs.Nearest.{edits, IsFirstNearest, IsNearest, IsOneNearest}

-- the edits to what was found; one more than may lead to a one, if none was
abbrev pub LeastOf : {X : Type 0} → (X → List ℕ) → List ℕ → Option X → ℕ
LeastOf text name None = 4
LeastOf text name (Some near) = edits name (text near)

-- a name at a place, by what holds of all
anywhere : {X : Type 0} (P : X → Type 0) (xs : List X) (p : ℕ) (x : X) → slice_get xs p ≡ Some x → All P xs → P x
anywhere {X = X} P [] p x at all = absurd cc
anywhere {X = X} P (y ∷ xs) zero x at all = let same : ◌≡◌ {A = Option X} (Some y) (Some x) = at in let e : y ≡ x = cc in subst P e (All-head P y xs all)
anywhere {X = X} P (y ∷ xs) (suc p) x at all = anywhere P xs p x at (All-tail P y xs all)

-- a name before a place, by what holds of all before it
before_place : {X : Type 0} (P : X → Type 0) (xs : List X) (p q : ℕ) (x : X) → slice_get xs p ≡ Some x → p < q → All P (take q xs) → P x
before_place {X = X} P [] p q x at less all = absurd cc
before_place {X = X} P (y ∷ xs) p zero x at less all = absurd (omega (arith, less))
before_place {X = X} P (y ∷ xs) zero (suc q) x at less all = let same : ◌≡◌ {A = Option X} (Some y) (Some x) = at in let e : y ≡ x = cc in subst P e (All-head P y (take q xs) all)
before_place {X = X} P (y ∷ xs) (suc p) (suc q) x at less all = before_place P xs p q x at (omega (arith, less)) (All-tail P y (take q xs) all)

-- the element behind others, and one that stays where it was
behind : {X : Type 0} (xs : List X) (x : X) → slice_get (xs ++ x ∷ []) (length xs) ≡ Some x
behind [] x = refl
behind (y ∷ xs) x = behind xs x

stays_there : {X : Type 0} (xs ys : List X) (p : ℕ) (x : X) → slice_get xs p ≡ Some x → slice_get (xs ++ ys) p ≡ Some x
stays_there [] ys p x at = absurd cc
stays_there (y ∷ xs) ys zero x at = at
stays_there (y ∷ xs) ys (suc p) x at = stays_there xs ys p x at

-- a name to which fewer edits lead than to all before it
newest : {X : Type 0} (text : X → List ℕ) (name : List ℕ) (xs : List X) (one : X) → edits name (text one) ≤ 3 → All (λ k. edits name (text one) < edits name (text k)) xs → IsFirstNearest text name (xs ++ one ∷ []) one
newest text name xs one few all = record {
  place = length xs;
  there = behind xs one;
  few = few;
  least = All-push (λ k. edits name (text one) ≤ edits name (text k)) xs one (λ i d h. omega (arith, all i d h)) (omega arith);
  first = subst (All (λ k. edits name (text one) < edits name (text k))) (sym (take-append_seam xs (one ∷ []))) all;
}

-- a name that is nearer
nearer_new : {X : Type 0} (text : X → List ℕ) (name : List ℕ) (xs : List X) (one : X) (near : Option X) → edits name (text one) < LeastOf text name near
    → IsNearest text name xs near → IsNearest text name (xs ++ one ∷ []) (Some one)
nearer_new text name xs one None less none = newest text name xs one (omega (arith, less)) (λ i d h. omega (arith, none i d h, less))
nearer_new text name xs one (Some near) less is = newest text name xs one (omega (arith, less, is.few)) (λ i d h. omega (arith, is.least i d h, less))

-- a name that is not nearer
as_near : {X : Type 0} (text : X → List ℕ) (name : List ℕ) (xs : List X) (one : X) (near : Option X) → LeastOf text name near ≤ edits name (text one)
    → IsNearest text name xs near → IsNearest text name (xs ++ one ∷ []) near
as_near text name xs one None more none = All-push (λ k. 3 < edits name (text k)) xs one none (omega (arith, more))
as_near text name xs one (Some near) more is = record {
  place = is.place;
  there = stays_there xs (one ∷ []) is.place near is.there;
  few = is.few;
  least = All-push (λ k. edits name (text near) ≤ edits name (text k)) xs one is.least more;
  first = subst (All (λ k. edits name (text near) < edits name (text k))) (sym (take-append-le is.place xs (one ∷ []) (omega (arith, slice_get_within xs is.place near is.there)))) is.first;
}

-- a name and the edits that lead to it are the nearest of the known ones
abbrev pub IsFound : {X : Type 0} → (X → List ℕ) → List ℕ → List X → Option X × ℕ → Type 0
IsFound text name xs found = IsNearest text name xs found.0 × (found.1 ≡ LeastOf text name found.0)

chosen : {X : Type 0} (text : X → List ℕ) (name : List ℕ) (xs : List X) (one : X) (near : Option X) (b : Bool) → b ≡ nat_lt (edits name (text one)) (LeastOf text name near)
    → IsNearest text name xs near → IsFound text name (xs ++ one ∷ []) (if b then (Some one, edits name (text one)) else (near, LeastOf text name near))
chosen text name xs one near true b nearest = (nearer_new text name xs one near (grind (arith, nat_tests)) nearest, refl)
chosen text name xs one near false b nearest = (as_near text name xs one near (grind (arith, nat_tests)) nearest, refl)

-- a step of the loop over the known names
pub nearest_on : {X : Type 0} (text : X → List ℕ) (name : List ℕ) (xs more : List X) (one : X) (near : Option X) (least e : ℕ) (found : Option X × ℕ) → more ≡ xs ++ one ∷ []
    → least ≡ LeastOf text name near → e ≡ edits name (text one) → found ≡ (if nat_lt e least then (Some one, e) else (near, least))
    → IsNearest text name xs near → IsFound text name more found
nearest_on text name xs more one near least e found one_more least_is e_is is nearest =
    rw (one_more, is, e_is, least_is) (chosen text name xs one near (nat_lt (edits name (text one)) (LeastOf text name near)) refl nearest)

-- of two first names neither stands before the other
not_before : {X : Type 0} (text : X → List ℕ) (name : List ℕ) (known : List X) (a b : X) (first : IsFirstNearest text name known a) (second : IsFirstNearest text name known b) → first.place < second.place → ⊥
not_before text name known a b first second less =
    let more : edits name (text b) < edits name (text a) = before_place (λ k. edits name (text b) < edits name (text k)) known first.place second.place a first.there less second.first in
    let least : edits name (text a) ≤ edits name (text b) = anywhere (λ k. edits name (text a) ≤ edits name (text k)) known second.place b second.there first.least in
    omega (arith, more, least)

one_of : {X : Type 0} (text : X → List ℕ) (name : List ℕ) (known : List X) (a b : Option X) → IsNearest text name known a → IsNearest text name known b → a ≡ b
one_of text name known None None first second = refl
one_of text name known None (Some b) first second = absurd (omega (arith, anywhere (λ k. 3 < edits name (text k)) known second.place b second.there first, second.few))
one_of text name known (Some a) None first second = absurd (omega (arith, anywhere (λ k. 3 < edits name (text k)) known first.place a first.there second, first.few))
one_of text name known (Some a) (Some b) first second = ⊎_elim
    (λ (less : first.place < second.place). absurd (not_before text name known a b first second less))
    (λ (as_far : second.place ≤ first.place). ⊎_elim
    (λ (less : second.place < first.place). absurd (not_before text name known b a second first less))
    (λ (near : first.place ≤ second.place).
    let same : first.place ≡ second.place = omega (arith, as_far, near) in
    sym first.there ∙ ap (slice_get known) same ∙ second.there)
    (cases_lt second.place first.place))
    (cases_lt first.place second.place)

pub one_nearest : IsOneNearest
one_nearest = one_of (λ other. other)

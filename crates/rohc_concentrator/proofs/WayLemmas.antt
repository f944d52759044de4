-- Lists of settings in which one gives way to others of its link, or to none.
use Rattle.std.proofs.Common.{◌≡◌, ◌≢◌, ℕ, zero, suc, ◌≤◌, List, [], ◌∷◌, ◌++◌, length, Bool, true, false, ◌==◌, Option, Some, None, refl, sym, ap, ◌∙◌, subst, arith, eq-eqb, eqb-true, ne_eqb, if◌then◌else◌}
use Rattle.std.specs.Prelude.{All, AllPairs}
use Rattle.std.specs.List.{AllByRecursion}
use Rattle.rohc_concentrator.specs.declared.setting.LinkSetting.{LinkSetting}
use Rattle.rohc_concentrator.specs.Setup.{entry_of}

-- all, and all pairs, by recursion

pub each_of : {X : Type 0} (P : X → Type 0) (xs : List X) → All P xs → AllByRecursion P xs
each_of P [] h = tt
each_of P (x ∷ xs) h = (h 0 x (omega arith), each_of P xs (λ j d within. h (suc j) d (omega arith)))

pub all_of : {X : Type 0} (P : X → Type 0) (xs : List X) → AllByRecursion P xs → All P xs
all_of P [] h k d within = absurd (omega arith)
all_of P (x ∷ xs) h zero d within = h.0
all_of P (x ∷ xs) h (suc k) d within = all_of P xs h.1 k d (omega arith)

abbrev pub Apart : List LinkSetting → Type 0
Apart [] = Unit {0}
Apart (s ∷ ss) = AllByRecursion (λ (t : LinkSetting). s.link ≢ t.link) ss × Apart ss

pub apart_of : (ss : List LinkSetting) → AllPairs (λ (s t : LinkSetting). s.link ≢ t.link) ss → Apart ss
apart_of [] h = tt
apart_of (s ∷ ss) h =
    (each_of (λ (t : LinkSetting). s.link ≢ t.link) ss (λ j d within. h 0 (suc j) d (omega arith) (omega arith)), apart_of ss (λ i j d below within. h (suc i) (suc j) d (omega arith) (omega arith)))

pub pairs_of : (ss : List LinkSetting) → Apart ss → AllPairs (λ (s t : LinkSetting). s.link ≢ t.link) ss
pairs_of [] h i j d below within = absurd (omega arith)
pairs_of (s ∷ ss) h i zero d below within = absurd (omega arith)
pairs_of (s ∷ ss) h zero (suc j) d below within = all_of (λ (t : LinkSetting). s.link ≢ t.link) ss h.0 j d (omega arith)
pairs_of (s ∷ ss) h (suc i) (suc j) d below within = pairs_of ss h.1 i j d (omega arith) (omega arith)

pub all_append : {X : Type 0} (P : X → Type 0) (xs ys : List X) → AllByRecursion P xs → AllByRecursion P ys → AllByRecursion P (xs ++ ys)
all_append P [] ys p q = q
all_append P (x ∷ xs) ys p q = (p.0, all_append P xs ys p.1 q)

-- one setting of a link gives way to at most one of the same link
abbrev pub IsWay : ℕ → List LinkSetting → Type 0
IsWay link [] = Unit {0}
IsWay link (s ∷ []) = s.link ≡ link
IsWay link (s ∷ t ∷ ss) = ⊥

abbrev pub first_of_way : List LinkSetting → Option LinkSetting
first_of_way [] = None
first_of_way (s ∷ ss) = Some s

skip_one : (l : ℕ) (s : LinkSetting) (ss : List LinkSetting) → s.link ≢ l → entry_of l (s ∷ ss) ≡ entry_of l ss
skip_one l s ss other = let not : (s.link == l) ≡ false = ne_eqb s.link l other in rw not refl

find_one : (l : ℕ) (s : LinkSetting) (ss : List LinkSetting) → s.link ≡ l → entry_of l (s ∷ ss) ≡ Some s
find_one l s ss same = let here : (s.link == l) ≡ true = eq-eqb s.link l same in rw here refl

-- where no setting is of a link, none is found
pub none_found : (l : ℕ) (ss : List LinkSetting) → AllByRecursion (λ (t : LinkSetting). l ≢ t.link) ss → entry_of l ss ≡ None
none_found l [] h = refl
none_found l (s ∷ ss) h = skip_one l s ss (λ e. h.0 (sym e)) ∙ none_found l ss h.1

-- and where none is found, none is of it
pub none_of_link : (l : ℕ) (ss : List LinkSetting) → entry_of l ss ≡ None → AllByRecursion (λ (t : LinkSetting). t.link ≢ l) ss
none_of_link l [] h = tt
none_of_link l (s ∷ ss) h = by (s.link == l) refl h (none_of_link l ss)
  where
    by : (b : Bool) → (s.link == l) ≡ b → (if b then Some s else entry_of l ss) ≡ None → (entry_of l ss ≡ None → AllByRecursion (λ (t : LinkSetting). t.link ≢ l) ss) → AllByRecursion (λ (t : LinkSetting). t.link ≢ l) (s ∷ ss)
    by true is found further = absurd (let f : ◌≡◌ {A = Option LinkSetting} (Some s) None = found in cc)
    by false is later further = (λ same. let here : (s.link == l) ≡ true = eq-eqb s.link l same in let f : false ≡ true = sym is ∙ here in cc, further later)

-- what is found is of the link
pub found_is : (l : ℕ) (ss : List LinkSetting) (s : LinkSetting) → entry_of l ss ≡ Some s → s.link ≡ l
found_is l [] s h = absurd (let f : ◌≡◌ {A = Option LinkSetting} None (Some s) = h in cc)
found_is l (t ∷ ss) s h = by (t.link == l) refl h (found_is l ss s)
  where
    by : (b : Bool) → (t.link == l) ≡ b → (if b then Some t else entry_of l ss) ≡ Some s → (entry_of l ss ≡ Some s → s.link ≡ l) → s.link ≡ l
    by true is found further = let same : t ≡ s = (let f : ◌≡◌ {A = Option LinkSetting} (Some t) (Some s) = found in cc) in subst (λ (x : LinkSetting). x.link ≡ l) same (eqb-true t.link l is)
    by false is later further = further later

module _ (link : ℕ) (b : LinkSetting) (is : b.link ≡ link) (behind : List LinkSetting) where
  way_apart : (these : List LinkSetting) → IsWay link these → Apart (b ∷ behind) → Apart (these ++ behind)
  way_apart [] way h = h.1
  way_apart (s ∷ []) way h = (subst (λ n. AllByRecursion (λ (t : LinkSetting). n ≢ t.link) behind) (is ∙ sym way) h.0, h.1)
  way_apart (s ∷ t ∷ ss) way h = absurd way

  way_other : (these : List LinkSetting) (l : ℕ) → IsWay link these → l ≢ link → entry_of l (these ++ behind) ≡ entry_of l (b ∷ behind)
  way_other [] l way other = sym (skip_one l b behind (λ e. other (sym e ∙ is)))
  way_other (s ∷ []) l way other = skip_one l s behind (λ e. other (sym e ∙ way)) ∙ sym (skip_one l b behind (λ e. other (sym e ∙ is)))
  way_other (s ∷ t ∷ ss) l way other = absurd way

  way_here : (these : List LinkSetting) → IsWay link these → Apart (b ∷ behind) → entry_of link (these ++ behind) ≡ first_of_way these
  way_here [] way h = none_found link behind (subst (λ n. AllByRecursion (λ (t : LinkSetting). n ≢ t.link) behind) is h.0)
  way_here (s ∷ []) way h = find_one link s behind way
  way_here (s ∷ t ∷ ss) way h = absurd way

  module _ (these : List LinkSetting) (way : IsWay link these) where
    pub all_way : (P : LinkSetting → Type 0) (front : List LinkSetting) → (P b → AllByRecursion P these) → AllByRecursion P (front ++ b ∷ behind) → AllByRecursion P (front ++ (these ++ behind))
    all_way P [] f h = all_append P these behind (f h.0) h.1
    all_way P (x ∷ front) f h = (h.0, all_way P front f h.1)

    others_way : (x : LinkSetting) → x.link ≢ b.link → (ts : List LinkSetting) → IsWay link ts → AllByRecursion (λ (t : LinkSetting). x.link ≢ t.link) ts
    others_way x other [] w = tt
    others_way x other (s ∷ []) w = (λ e. other (e ∙ w ∙ sym is), tt)
    others_way x other (s ∷ t ∷ ss) w = absurd w

    pub apart_way : (front : List LinkSetting) → Apart (front ++ b ∷ behind) → Apart (front ++ (these ++ behind))
    apart_way [] h = way_apart these way h
    apart_way (x ∷ front) h = (all_way (λ (t : LinkSetting). x.link ≢ t.link) front (λ other. others_way x other these way) h.0, apart_way front h.1)

    pub entry_other : (front : List LinkSetting) (l : ℕ) → l ≢ link → entry_of l (front ++ (these ++ behind)) ≡ entry_of l (front ++ b ∷ behind)
    entry_other [] l other = way_other these l way other
    entry_other (x ∷ front) l other = ap (λ o. if x.link == l then Some x else o) (entry_other front l other)

    -- the setting before is another's
    before_way : (x : LinkSetting) (front : List LinkSetting) → AllByRecursion (λ (t : LinkSetting). x.link ≢ t.link) (front ++ b ∷ behind) → x.link ≢ b.link
    before_way x [] h = h.0
    before_way x (y ∷ front) h = before_way x front h.1

    pub entry_here : (front : List LinkSetting) → Apart (front ++ b ∷ behind) → entry_of link (front ++ (these ++ behind)) ≡ first_of_way these
    entry_here [] h = way_here these way h
    entry_here (x ∷ front) h = skip_one link x (front ++ (these ++ behind)) (λ e. before_way x front h.0 (e ∙ sym is)) ∙ entry_here front h.1

    pub few_way : (front : List LinkSetting) → length (front ++ (these ++ behind)) ≤ length (front ++ b ∷ behind)
    few_way [] = by these way
      where
        by : (ts : List LinkSetting) → IsWay link ts → length (ts ++ behind) ≤ suc (length behind)
        by [] w = omega arith
        by (s ∷ []) w = omega arith
        by (s ∷ t ∷ ss) w = absurd w
    few_way (x ∷ front) = let rest = few_way front in omega (arith, rest)

-- one more setting, of a link that none is of

pub all_last : {X : Type 0} (P : X → Type 0) (xs : List X) (x : X) → AllByRecursion P xs → P x → AllByRecursion P (xs ++ x ∷ [])
all_last P xs x h p = all_append P xs (x ∷ []) h (p, tt)

pub apart_last : (ss : List LinkSetting) (s : LinkSetting) → Apart ss → AllByRecursion (λ (t : LinkSetting). t.link ≢ s.link) ss → Apart (ss ++ s ∷ [])
apart_last [] s h none = (tt, tt)
apart_last (x ∷ ss) s h none = (all_last (λ (t : LinkSetting). x.link ≢ t.link) ss s h.0 none.0, apart_last ss s h.1 none.1)

pub entry_last : (ss : List LinkSetting) (s : LinkSetting) (l : ℕ) → l ≢ s.link → entry_of l (ss ++ s ∷ []) ≡ entry_of l ss
entry_last [] s l other = skip_one l s [] (λ e. other (sym e))
entry_last (x ∷ ss) s l other = ap (λ o. if x.link == l then Some x else o) (entry_last ss s l other)

pub entry_added : (ss : List LinkSetting) (s : LinkSetting) → AllByRecursion (λ (t : LinkSetting). t.link ≢ s.link) ss → entry_of s.link (ss ++ s ∷ []) ≡ Some s
entry_added [] s none = find_one s.link s [] refl
entry_added (x ∷ ss) s none = skip_one s.link x (ss ++ s ∷ []) none.0 ∙ entry_added ss s none.1

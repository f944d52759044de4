-- What one line more does to counts and lists.
use Rattle.std.proofs.Common.{◌≡◌, ℕ, ◌+◌, List, [], ◌∷◌, ◌++◌, length, filter, Bool, true, false, cond, ◌||◌, if◌then◌else◌, Option, Some, None, count_by, append-nil, arith, refl, ◌∙◌, ap}
use Rattle.std.specs.List.{list_any}
use Rattle.std.proofs.lemmas.List.Folds.{list_any-append}
use Rattle.std.proofs.lemmas.List.Sums.{sum_by-append}
use Rattle.std.proofs.lemmas.Grind.{flat_map-append}
use Rattle.rohc_context.specs.declared.refusal.Refusal.{Refusal}
use Rattle.rohc_links.specs.Limits.{counted}
use Rattle.rohc_totals.specs.declared.kind.AnswerLine.{AnswerLine}
use Rattle.rohc_totals.specs.Kind.{refusal_of}
use Rattle.rohc_totals.specs.Counted.{tally, later_of}
use Rattle.rohc_totals.specs.Totals.{Numbered, numbered_after, numbered, after_last, first_by, last_in, listed, refusals_of}

-- one more is counted
pub count_by-push : {X : Type 0} (p : X → Bool) (xs : List X) (x : X) → count_by p (xs ++ x ∷ []) ≡ count_by p xs + cond (p x) 1 0
count_by-push {X} p xs x = let h = sum_by-append (λ (y : X). cond (p y) 1 0) xs (x ∷ []) in omega (arith, h)

-- up to the greatest `u64`
pub tally-push : {X : Type 0} (p : X → Bool) (xs : List X) (x : X) → tally p (xs ++ x ∷ []) ≡ (if p x then counted (tally p xs) 1 else tally p xs)
tally-push p xs x = elim (p x) as (λ b. count_by p (xs ++ x ∷ []) ≡ count_by p xs + cond b 1 0 → tally p (xs ++ x ∷ []) ≡ (if b then counted (tally p xs) 1 else tally p xs)) [
  | true ↦ λ e. omega (arith, e)
  | false ↦ λ e. omega (arith, e)
] (count_by-push p xs x)

or_hit : (a b : Bool) → b ≡ true → (a || (b || false)) ≡ true
or_hit true b e = refl
or_hit false b e = rw e refl

or_miss : (a b : Bool) → b ≡ false → (a || (b || false)) ≡ a
or_miss true b e = refl
or_miss false b e = rw e refl

any-hit : {X : Type 0} (p : X → Bool) (xs : List X) (x : X) → p x ≡ true → list_any p (xs ++ x ∷ []) ≡ true
any-hit p xs x e = list_any-append p xs (x ∷ []) ∙ or_hit (list_any p xs) (p x) e

any-miss : {X : Type 0} (p : X → Bool) (xs : List X) (x : X) → p x ≡ false → list_any p (xs ++ x ∷ []) ≡ list_any p xs
any-miss p xs x e = list_any-append p xs (x ∷ []) ∙ or_miss (list_any p xs) (p x) e

-- behind the last one nothing follows
pub after_last-hit : {X : Type 0} (p : X → Bool) (xs : List X) (x : X) → p x ≡ true → after_last p (xs ++ x ∷ []) ≡ []
after_last-hit p [] x e = rw e refl
after_last-hit p (y ∷ ys) x e = let any = any-hit p ys x e in rw any (after_last-hit p ys x e)

-- another one follows
pub after_last-miss : {X : Type 0} (p : X → Bool) (xs : List X) (x : X) → p x ≡ false → after_last p (xs ++ x ∷ []) ≡ after_last p xs ++ x ∷ []
after_last-miss p [] x e = rw e refl
after_last-miss {X} p (y ∷ ys) x e =
    let any = any-miss p ys x e in
    let more = after_last-miss p ys x e in
    rw any (elim (list_any p ys) as (λ a. (if a then after_last p (ys ++ x ∷ []) else (if p y then ys ++ x ∷ [] else y ∷ (ys ++ x ∷ []))) ≡ (if a then after_last p ys else (if p y then ys else y ∷ ys)) ++ x ∷ []) [
      | true ↦ more
      | false ↦ elim (p y) as (λ b. (if b then ys ++ x ∷ [] else y ∷ (ys ++ x ∷ [])) ≡ (if b then ys else y ∷ ys) ++ x ∷ []) [ true ↦ refl | false ↦ refl ]
    ])

-- the first stays the first
abbrev pub or_else : {X : Type 0} → Option X → Option X → Option X
or_else (Some x) other = Some x
or_else None other = other

pub first_by-push : {X : Type 0} (p : X → Bool) (xs : List X) (x : X) → first_by p (xs ++ x ∷ []) ≡ or_else (first_by p xs) (if p x then Some x else None)
first_by-push p [] x = refl
first_by-push p (y ∷ ys) x = let more = first_by-push p ys x in elim (p y) as (λ b. (if b then Some y else first_by p (ys ++ x ∷ [])) ≡ or_else (if b then Some y else first_by p ys) (if p x then Some x else None)) [ true ↦ refl | false ↦ more ]

-- the last is the last
pub last_in-push : {X : Type 0} (xs : List X) (x : X) → last_in (xs ++ x ∷ []) ≡ Some x
last_in-push [] x = refl
last_in-push (y ∷ []) x = refl
last_in-push (y ∷ z ∷ zs) x = last_in-push (z ∷ zs) x

refusals-push : (own : List Numbered) (e : Numbered) → refusals_of (own ++ e ∷ []) ≡ refusals_of own ++ listed (refusal_of e.1.kind)
refusals-push own e = flat_map-append (λ (line : Numbered). listed (refusal_of line.1.kind)) own (e ∷ []) ∙ ap (λ t. refusals_of own ++ t) (append-nil (listed (refusal_of e.1.kind)))

later : (rs : List Refusal) (r : Option Refusal) → last_in (rs ++ listed r) ≡ later_of (last_in rs) r
later rs None = ap last_in (append-nil rs)
later rs (Some r) = last_in-push rs r

-- the last refusal, with a line more
pub last-push : (own : List Numbered) (e : Numbered) → last_in (refusals_of (own ++ e ∷ [])) ≡ later_of (last_in (refusals_of own)) (refusal_of e.1.kind)
last-push own e = ap last_in (refusals-push own e) ∙ later (refusals_of own) (refusal_of e.1.kind)

numbered_after-push : (n : ℕ) (lines : List AnswerLine) (x : AnswerLine) → numbered_after n (lines ++ x ∷ []) ≡ numbered_after n lines ++ (n + length lines + 1, x) ∷ []
numbered_after-push n [] x = let same : n + 1 ≡ n + 0 + 1 = omega arith in ap (λ m. (m, x) ∷ []) same
numbered_after-push n (line ∷ lines) x =
    let same : n + 1 + length lines + 1 ≡ n + length (line ∷ lines) + 1 = omega arith in
    ap (λ t. (n + 1, line) ∷ t) (numbered_after-push (n + 1) lines x ∙ ap (λ m. numbered_after (n + 1) lines ++ (m, x) ∷ []) same)

-- the number of a line more
pub numbered-push : (lines : List AnswerLine) (x : AnswerLine) → numbered (lines ++ x ∷ []) ≡ numbered lines ++ (length lines + 1, x) ∷ []
numbered-push lines x = let same : 0 + length lines + 1 ≡ length lines + 1 = omega arith in numbered_after-push 0 lines x ∙ ap (λ m. numbered lines ++ (m, x) ∷ []) same

-- what is kept of a line more by a filter
pub filter-push : {X : Type 0} (p : X → Bool) (xs : List X) (x : X) → filter p (xs ++ x ∷ []) ≡ filter p xs ++ (if p x then x ∷ [] else [])
filter-push p [] x = elim (p x) as (λ b. (if b then x ∷ [] else []) ≡ (if b then x ∷ [] else [])) [ true ↦ refl | false ↦ refl ]
filter-push p (y ∷ ys) x = let more = filter-push p ys x in elim (p y) as (λ b. (if b then y ∷ filter p (ys ++ x ∷ []) else filter p (ys ++ x ∷ [])) ≡ (if b then y ∷ filter p ys else filter p ys) ++ (if p x then x ∷ [] else [])) [ true ↦ ap (λ t. y ∷ t) more | false ↦ more ]

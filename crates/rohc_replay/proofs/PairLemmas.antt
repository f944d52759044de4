-- Lemmas on which pair a line is of.
use Rattle.std.proofs.Common.{◌≡◌, ℕ, ◌+◌, ◌%◌, ◌<◌, ◌≤◌, ◌^◌, List, [], ◌∷◌, ◌++◌, Bool, true, false, ◌&&◌, ◌==◌, codes, append_assoc, append-nil, eqb-true, eq-eqb, ne_eqb, arith, refl, sym, ◌∙◌, ap, subst}
use Rattle.std.specs.Fmt.{decimal}
use Rattle.std.specs.Str.{bytes_eq}
use Rattle.rohc_replay.specs.Numeral.{IsNumberAt}
use Rattle.rohc_replay.specs.AnswerLines.{pair_text}
use Rattle.rohc_replay.specs.Isolation.{begins_with, is_pair_line, is_own_line}
use Rattle.rohc_replay.specs.Lines.{has_newline}
use Rattle.rohc_replay.proofs.NumeralLemmas.{number_unique}
use Rattle.rohc_replay.proofs.SplitLemmas.{has_newline-append, both_false}
use Rattle.std.proofs.lemmas.Fmt.{decimal_by_steps}

both : (a b : Bool) → (a && b) ≡ true → (a ≡ true) × (b ≡ true)
both true true e = (refl, refl)
both true false e = cc
both false b e = cc

-- a text that begins with another is that one and a rest
pub begins_parts : (front text : List ℕ) → begins_with front text ≡ true → (rest : List ℕ) × (text ≡ front ++ rest)
begins_parts [] text e = (text, refl)
begins_parts (o ∷ os) [] e = absurd (let f : false ≡ true = e in cc)
begins_parts (o ∷ os) (p ∷ ps) e =
    let h = both (o == p) (begins_with os ps) e in
    let r = begins_parts os ps h.1 in
    (r.0, ap (λ x. x ∷ ps) (sym (eqb-true o p h.0)) ∙ ap (λ t. o ∷ t) r.1)

-- behind a common front
pub begins_after : (front a b : List ℕ) → begins_with (front ++ a) (front ++ b) ≡ begins_with a b
begins_after [] a b = refl
begins_after (o ∷ os) a b = let same : (o == o) ≡ true = eq-eqb o o refl in rw same (begins_after os a b)

pub begins_whole : (front rest : List ℕ) → begins_with front (front ++ rest) ≡ true
begins_whole front rest = ap (λ f. begins_with f (front ++ rest)) (sym (append-nil front)) ∙ begins_after front [] rest

pub same_after : (front a b : List ℕ) → bytes_eq (front ++ a) (front ++ b) ≡ bytes_eq a b
same_after [] a b = refl
same_after (o ∷ os) a b = let same : (o == o) ≡ true = eq-eqb o o refl in rw same (same_after os a b)

-- the link, a space, the identifier, a space, and what follows
pub pair_spelled : (l c : ℕ) (rest : List ℕ) → pair_text l c ++ rest ≡ decimal l ++ 32 ∷ (decimal c ++ 32 ∷ rest)
pair_spelled l c rest = simp append_assoc

number_at : (n : ℕ) (rest : List ℕ) → n < 2 ^ 16 → IsNumberAt (decimal n ++ 32 ∷ rest) n (32 ∷ rest)
number_at n rest fits = record { fits = omega arith; spelled = refl; ends = refl }

-- two pairs in front of one text are one
pub pair_unique : (l c k d : ℕ) (x y : List ℕ) → l < 2 ^ 16 → c < 2 ^ 16 → k < 2 ^ 16 → d < 2 ^ 16 → pair_text l c ++ x ≡ pair_text k d ++ y → (l ≡ k) × (c ≡ d)
pair_unique l c k d x y lf cf kf df e =
    let whole : decimal l ++ 32 ∷ (decimal c ++ 32 ∷ x) ≡ decimal k ++ 32 ∷ (decimal d ++ 32 ∷ y) = sym (pair_spelled l c x) ∙ e ∙ pair_spelled k d y in
    let links = number_unique (decimal l ++ 32 ∷ (decimal c ++ 32 ∷ x)) l k _ _ (number_at l _ lf) (subst (λ t. IsNumberAt t k (32 ∷ (decimal d ++ 32 ∷ y))) (sym whole) (number_at k _ kf)) in
    let behind : decimal c ++ 32 ∷ x ≡ decimal d ++ 32 ∷ y = let h = links.1 in cc in
    let cids = number_unique (decimal c ++ 32 ∷ x) c d _ _ (number_at c _ cf) (subst (λ t. IsNumberAt t d (32 ∷ y)) (sym behind) (number_at d _ df)) in
    (links.0, cids.0)

-- a number is a digit and digits
pub digits_first : (n : ℕ) → n < 2 ^ 64 → (d : ℕ) × (ds : List ℕ) × (decimal n ≡ d ∷ ds) × (48 ≤ d) × (has_newline ds ≡ false) × (d ≤ 57)
digits_first n fits = decimal_by_steps (λ m text. (d : ℕ) × (ds : List ℕ) × (text ≡ d ∷ ds) × (48 ≤ d) × (has_newline ds ≡ false) × (d ≤ 57))
    (λ m small. (48 + m, [], refl, omega arith, refl, omega arith))
    (λ m text great h.
    let last : ((48 + m % 10) == 10) ≡ false = ne_eqb (48 + m % 10) 10 (λ e. omega arith) in (
      h.0,
      h.1 ++ (48 + m % 10) ∷ [],
      ap (λ t. t ++ (48 + m % 10) ∷ []) h.2,
      h.3,
      has_newline-append h.1 ((48 + m % 10) ∷ []) ∙ both_false _ _ h.4 (both_false _ _ last refl),
      h.5,
    ))
    n fits

-- a number doesn't begin with a dash
no_dash : (n : ℕ) (x y : List ℕ) → n < 2 ^ 16 → decimal n ++ x ≡ 45 ∷ y → ⊥
no_dash n x y fits e =
    let first = digits_first n (omega arith) in
    let whole : first.0 ∷ (first.1 ++ x) ≡ 45 ∷ y = ap (λ t. t ++ x) (sym first.2) ∙ e in
    let dash : first.0 ≡ 45 = cc in
    omega (arith, first.3)

-- a line that doesn't begin with the pair isn't its own
not_begun : (l c : ℕ) (line : List ℕ) → (begins_with (pair_text l c) line ≡ true → ⊥) → is_pair_line l c line ≡ false
not_begun l c line never = elim (begins_with (pair_text l c) line) as (λ b. (b ≡ true → ⊥) → b ≡ false) [
  | true ↦ λ f. absurd (f refl)
  | false ↦ λ f. refl
] never

-- a line of another pair isn't this pair's
pub other_pair : (l c k d : ℕ) (rest : List ℕ) → l < 2 ^ 16 → c < 2 ^ 16 → k < 2 ^ 16 → d < 2 ^ 16 → ((l ≡ k) × (c ≡ d) → ⊥) → is_pair_line l c (pair_text k d ++ rest) ≡ false
other_pair l c k d rest lf cf kf df apart = not_begun l c (pair_text k d ++ rest) (λ e.
    let parts = begins_parts (pair_text l c) (pair_text k d ++ rest) e in
    apart (pair_unique l c k d parts.0 rest lf cf kf df (sym parts.1)))

-- nor is a line with a dash where the identifier would stand
pub no_pair : (l c k : ℕ) (rest : List ℕ) → l < 2 ^ 16 → c < 2 ^ 16 → k < 2 ^ 16 → is_pair_line l c (decimal k ++ 32 ∷ 45 ∷ rest) ≡ false
no_pair l c k rest lf cf kf = not_begun l c (decimal k ++ 32 ∷ 45 ∷ rest) (λ e.
    let parts = begins_parts (pair_text l c) (decimal k ++ 32 ∷ 45 ∷ rest) e in
    let whole : decimal l ++ 32 ∷ (decimal c ++ 32 ∷ parts.0) ≡ decimal k ++ 32 ∷ 45 ∷ rest = sym (pair_spelled l c parts.0) ∙ sym parts.1 in
    let links = number_unique (decimal l ++ 32 ∷ (decimal c ++ 32 ∷ parts.0)) l k _ _ (number_at l _ lf) (subst (λ t. IsNumberAt t k (32 ∷ 45 ∷ rest)) (sym whole) (number_at k _ kf)) in
    let behind : decimal c ++ 32 ∷ parts.0 ≡ 45 ∷ rest = let h = links.1 in cc in
    no_dash c (32 ∷ parts.0) rest cf behind)

-- nor a line that begins with a dash
pub no_link : (l c : ℕ) (rest : List ℕ) → l < 2 ^ 16 → is_pair_line l c (45 ∷ rest) ≡ false
no_link l c rest lf = not_begun l c (45 ∷ rest) (λ e.
    let parts = begins_parts (pair_text l c) (45 ∷ rest) e in
    no_dash l (32 ∷ (decimal c ++ 32 ∷ parts.0)) rest lf (sym (pair_spelled l c parts.0) ∙ sym parts.1))

-- a line of the pair is its own, but for want of memory
pub own_pair : (l c : ℕ) (rest : List ℕ) → bytes_eq (codes "refused NoMemory") rest ≡ false → is_own_line l c (pair_text l c ++ rest) ≡ true
own_pair l c rest rich = rw (begins_whole (pair_text l c) rest, same_after (pair_text l c) (codes "refused NoMemory") rest, rich) refl

pub poor_pair : (l c : ℕ) (rest : List ℕ) → bytes_eq (codes "refused NoMemory") rest ≡ true → is_own_line l c (pair_text l c ++ rest) ≡ false
poor_pair l c rest poor = rw (begins_whole (pair_text l c) rest, same_after (pair_text l c) (codes "refused NoMemory") rest, poor) refl

-- a line of another link isn't this pair's
pub other_link : (l c k d : ℕ) (rest : List ℕ) → l < 2 ^ 16 → k < 2 ^ 16 → (l ≡ k → ⊥) → is_pair_line l c (pair_text k d ++ rest) ≡ false
other_link l c k d rest lf kf apart = not_begun l c (pair_text k d ++ rest) (λ e.
    let parts = begins_parts (pair_text l c) (pair_text k d ++ rest) e in
    let whole : decimal l ++ 32 ∷ (decimal c ++ 32 ∷ parts.0) ≡ decimal k ++ 32 ∷ (decimal d ++ 32 ∷ rest) = sym (pair_spelled l c parts.0) ∙ sym parts.1 ∙ pair_spelled k d rest in
    apart (number_unique (decimal l ++ 32 ∷ (decimal c ++ 32 ∷ parts.0)) l k _ _ (number_at l _ lf) (subst (λ t. IsNumberAt t k (32 ∷ (decimal d ++ 32 ∷ rest))) (sym whole) (number_at k _ kf))).0)

-- Each line is of one kind.
use Rattle.std.proofs.Common.{◌≡◌, ℕ, zero, suc, ◌+◌, ◌<◌, ◌≤◌, [], ◌∷◌, length, true, false, cond, ◌==◌, count_by, eqb-true, eq-eqb, ne_eqb, inl, inr, arith, refl, rules}
use Rattle.std.proofs.lemmas.Bool.{cases_eq}
use Rattle.std.proofs.lemmas.List.Sums.{sum_by-cons}
use Rattle.rohc_context.specs.Refusal.{number_of}
use Rattle.rohc_context.specs.declared.refusal.Refusal.{Refusal}
use Rattle.rohc_totals.specs.declared.kind.LineKind.{LineKind}
use Rattle.rohc_totals.specs.declared.kind.LineKind.TheVariants.{NoAnswer, BadLine, LongLine, Delivered, Stored, Relayed, Ack, Nack, StaticNack, Plain, OtherFeedback, Refused}
use Rattle.rohc_totals.specs.declared.kind.AnswerLine.{AnswerLine}
use Rattle.rohc_totals.specs.Kind.{kinds, kind_number, is_of_kind}
use Rattle.rohc_totals.specs.Laws.{sum_below, CountsEachOnce}

-- a sum of sums
both_sums : (n : ℕ) (f g h : ℕ → ℕ) → ((k : ℕ) → h k ≡ f k + g k) → sum_below n h ≡ sum_below n f + sum_below n g
both_sums zero f g h e = refl
both_sums (suc n) f g h e = let rest = both_sums n f g h e in let last = e n in omega (arith, rest, last)

no_sum : (n : ℕ) (h : ℕ → ℕ) → ((k : ℕ) → h k ≡ 0) → sum_below n h ≡ 0
no_sum zero h e = refl
no_sum (suc n) h e = let rest = no_sum n h e in let last = e n in omega (arith, rest, last)

-- the number isn't among those below
none_below : (n m : ℕ) → n ≤ m → sum_below n (λ k. cond (m == k) 1 0) ≡ 0
none_below zero m e = refl
none_below (suc n) m e =
    let rest = none_below n m (omega arith) in
    let other : (m == n) ≡ false = ne_eqb m n (λ same. omega (arith, same, e)) in
    rw other (omega (arith, rest))

-- it is among them once
one_below : (n m : ℕ) → m < n → sum_below n (λ k. cond (m == k) 1 0) ≡ 1
one_below zero m e = absurd (omega (arith, e))
one_below (suc n) m e = elim (m == n) as (λ b. (m == n) ≡ b → sum_below n (λ k. cond (m == k) 1 0) + cond b 1 0 ≡ 1) [
  | true ↦ λ is. let same : m ≡ n = eqb-true m n is in let rest = none_below n m (omega (arith, same)) in omega (arith, rest)
  | false ↦ λ is. let rest = one_below n m (differs is) in omega (arith, rest)
] refl
  where
    differs : (m == n) ≡ false → m < n
    differs is = elim (cases_eq m n) [
      | inl same ↦ absurd (let yes : (m == n) ≡ true = eq-eqb m n same in cc)
      | inr other ↦ omega (arith, other, e)
    ]

few : (r : Refusal) → number_of r < 31
few r = search rules

few_kinds : (kind : LineKind) → kind_number kind < kinds
few_kinds NoAnswer = omega arith
few_kinds BadLine = omega arith
few_kinds LongLine = omega arith
few_kinds Delivered = omega arith
few_kinds Stored = omega arith
few_kinds Relayed = omega arith
few_kinds Ack = omega arith
few_kinds Nack = omega arith
few_kinds StaticNack = omega arith
few_kinds Plain = omega arith
few_kinds OtherFeedback = omega arith
few_kinds (Refused refusal) = let number = few refusal in omega (arith, number)

pub each_once : CountsEachOnce
each_once [] = no_sum kinds (λ k. count_by (is_of_kind k) []) (λ k. refl)
each_once (x ∷ xs) =
    let rest = each_once xs in
    let one = one_below kinds (kind_number x.kind) (few_kinds x.kind) in
    let sums = both_sums kinds (λ k. cond (kind_number x.kind == k) 1 0) (λ k. count_by (is_of_kind k) xs) (λ k. count_by (is_of_kind k) (x ∷ xs))
    (λ k. sum_by-cons (λ (line : AnswerLine). cond (is_of_kind k line) 1 0) x xs) in
    let size : length (x ∷ xs) ≡ 1 + length xs = omega arith in
    omega (arith, rest, one, sums, size)

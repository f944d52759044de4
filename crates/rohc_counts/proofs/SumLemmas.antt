-- One count more is one answer more.
use Rattle.std.proofs.Common.{◌≡◌, ℕ, zero, suc, ◌+◌, ◌-◌, ◌^◌, ◌<◌, ◌≤◌, true, false, ◌==◌, Some, None, slice_index, eqb-true, eq-eqb, ne_eqb, inl, inr, arith, refl, rules, sym}
use Rattle.std.proofs.lemmas.Bool.{cases_eq}
use Rattle.rohc_context.specs.Refusal.{number_of}
use Rattle.rohc_context.specs.declared.refusal.Refusal.{Refusal}
use Rattle.rohc_context.specs.declared.reply.Outcome.{Outcome}
use Rattle.rohc_context.specs.declared.reply.Outcome.TheVariants.{Delivered, Stored}
use Rattle.rohc_context.specs.declared.reply.Outcome.TheVariants as outcomes
use Rattle.rohc_concentrator.specs.Report.{Arrived, OnlyFront, Refused}
use Rattle.rohc_counts.specs.declared.counts.Counts.{Counts}
use Rattle.rohc_counts.specs.Counted.{MoreAt, counted, counted_at, outcome_number}
use Rattle.rohc_counts.specs.Laws.{sum_below, answers_in, CountsAnswers}

same_below : (m : ℕ) (f g : ℕ → ℕ) → ((k : ℕ) → k < m → g k ≡ f k) → sum_below m g ≡ sum_below m f
same_below zero f g e = refl
same_below (suc m) f g e =
    let rest = same_below m f g (λ k less. e k (omega (arith, less))) in
    let last = e m (omega arith) in omega (arith, rest, last)

term_below : (m n : ℕ) (f : ℕ → ℕ) → n < m → f n ≤ sum_below m f
term_below zero n f e = absurd (omega (arith, e))
term_below (suc m) n f e = elim (cases_eq m n) [
  | inl same ↦ rw same (omega arith)
  | inr other ↦ let rest = term_below m n f (omega (arith, other, e)) in omega (arith, rest)
]

one_more : (b : ℕ) → b < 2 ^ 64 - 1 → counted b 1 ≡ b + 1
one_more b e = omega (arith, e)

-- one of them is one more
sum_at : (m n : ℕ) (f g : ℕ → ℕ) → n < m → f n < 2 ^ 64 - 1 →
    ((k : ℕ) → k < m → g k ≡ counted_at (n == k) (f k)) → sum_below m g ≡ sum_below m f + 1
sum_at zero n f g less small e = absurd (omega (arith, less))
sum_at (suc m) n f g less small e = elim (n == m) as (λ b. (n == m) ≡ b → sum_below (suc m) g ≡ sum_below (suc m) f + 1) [
  | true ↦ λ is. here is
  | false ↦ λ is. there is (λ differs. sum_at m n f g differs small (λ k below. e k (omega (arith, below))))
] refl
  where
    here : (n == m) ≡ true → sum_below (suc m) g ≡ sum_below (suc m) f + 1
    here is =
        let same : n ≡ m = eqb-true n m is in
        let rest = same_below m f g (λ k below. let at = e k (omega (arith, below)) in
        let no : (n == k) ≡ false = ne_eqb n k (λ eq. omega (arith, eq, same, below)) in cc) in
        let last : g m ≡ counted (f m) 1 = (let at = e m (omega arith) in cc) in
        let one = one_more (f m) (rw (sym same) small) in omega (arith, rest, last, one)

    there : (n == m) ≡ false → (n < m → sum_below m g ≡ sum_below m f + 1) →
        sum_below (suc m) g ≡ sum_below (suc m) f + 1
    there is below =
        let differs : n < m = elim (cases_eq n m) [
          | inl same ↦ absurd (let yes : (n == m) ≡ true = eq-eqb n m same in cc)
          | inr other ↦ omega (arith, other, less)
        ] in
        let rest = below differs in
        let last : g m ≡ f m = (let at = e m (omega arith) in cc) in omega (arith, rest, last)

few : (r : Refusal) → number_of r < 31
few r = search rules

few_outcomes : (o : Outcome) → outcome_number o < 32
few_outcomes Delivered = omega arith
few_outcomes Stored = omega arith
few_outcomes (outcomes.Refused refusal) = let number = few refusal in omega (arith, number)

-- an answer with an outcome
with_outcome : (n : ℕ) (before after : Counts) → n < 32 → answers_in before < 2 ^ 64 - 1 →
    MoreAt 32 (Some n) before.outcomes after.outcomes → after.fronts ≡ counted before.fronts 0 →
    answers_in after ≡ answers_in before + 1
with_outcome n before after less small more fronts =
    let term = term_below 32 n (slice_index before.outcomes) less in
    let sum = sum_at 32 n (slice_index before.outcomes) (slice_index after.outcomes) less (omega (arith, term, small)) more in
    omega (arith, sum, fronts, small)

-- an answer to padding and feedback alone
without_outcome : (before after : Counts) → answers_in before < 2 ^ 64 - 1 →
    MoreAt 32 None before.outcomes after.outcomes → after.fronts ≡ counted before.fronts 1 →
    answers_in after ≡ answers_in before + 1
without_outcome before after small more fronts =
    let sum = same_below 32 (slice_index before.outcomes) (slice_index after.outcomes) more in
    omega (arith, sum, fronts, small)

pub counts_answers : CountsAnswers
counts_answers (Arrived cid r relayed) before after small (word, fed, parts) =
    with_outcome (outcome_number r.outcome) before after (few_outcomes r.outcome) small parts.outcomes parts.fronts_counted
counts_answers (OnlyFront relayed) before after small parts =
    without_outcome before after small parts.outcomes parts.fronts_counted
counts_answers (Refused refusal) before after small parts =
    with_outcome (number_of refusal) before after (let number = few refusal in omega (arith, number)) small parts.outcomes parts.fronts_counted

-- The law of the counts. Words: sum_below; CountsEachOnce.
use Rattle.std.specs.Prelude.{◌≡◌, ℕ, zero, suc, ◌+◌, List, length, count_by}
use Rattle.rohc_totals.specs.declared.kind.AnswerLine.{AnswerLine}
use Rattle.rohc_totals.specs.Kind.{kinds, is_of_kind}

-- the sum over the numbers below this one
abbrev pub sum_below : ℕ → (ℕ → ℕ) → ℕ
sum_below zero f = 0
sum_below (suc n) f = sum_below n f + f n

-- The numbers of lines of each kind add up to the number of lines.
abbrev pub CountsEachOnce : Type 0
CountsEachOnce =
    (lines : List AnswerLine) → sum_below kinds (λ k. count_by (is_of_kind k) lines) ≡ length lines

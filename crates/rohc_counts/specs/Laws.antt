-- The law of the counts. Words: answers_in, CountsAnswers.
use Rattle.std.specs.Prelude.{◌≡◌, ℕ, zero, suc, ◌+◌, ◌-◌, ◌^◌, ◌<◌, slice_index}
use Rattle.rohc_concentrator.specs.Report.{Report}
use Rattle.rohc_counts.specs.declared.counts.Counts.{Counts}
use Rattle.rohc_counts.specs.Counted.{IsCounted}

-- the sum over the numbers below this one
abbrev pub sum_below : ℕ → (ℕ → ℕ) → ℕ
sum_below zero f = 0
sum_below (suc n) f = sum_below n f + f n

-- how many answers were counted: one outcome each, or padding and feedback alone
abbrev pub answers_in : Counts → ℕ
answers_in c = sum_below 32 (slice_index c.outcomes) + c.fronts

-- Each answer is counted once, as long as there are fewer than the greatest `u64`.
abbrev pub CountsAnswers : Type 0
CountsAnswers = (report : Report) (before after : Counts) → answers_in before < 2 ^ 64 - 1 →
    IsCounted report before after → answers_in after ≡ answers_in before + 1

-- Counting an answer as C reads it. Words: CountsWritten.
use Rattle.std.specs.Prelude.{◌≡◌, ℕ, List}
use Rattle.rohc_concentrator.specs.Report.{Report}
use Rattle.rohc_counts.specs.declared.counts.Counts.{Counts}
use Rattle.rohc_counts.specs.Counted.{IsCounted}
use Rattle.rohc_c.specs.Written.{Buffers, IsAnswerWritten}
use Rattle.rohc_c.specs.declared.arrival.RohcArrival.{RohcArrival}

-- whatever answer stands in the struct and the buffers, its feedback in this one: it is counted
abbrev pub CountsWritten : RohcArrival → List ℕ → Counts → Counts → Type 0
CountsWritten a feedback before after = (report : Report) (p : Buffers) → p.feedback ≡ feedback →
    IsAnswerWritten report p a → IsCounted report before after

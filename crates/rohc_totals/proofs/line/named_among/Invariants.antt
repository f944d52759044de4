use Rattle.std.proofs.Common.{◌≡◌, ℕ, ◌<◌, get_or}
use Rattle.rohc_context.specs.Refusal.{name_of}
use Rattle.rohc_context.specs.declared.refusal.Refusal.TheVariants.{Empty}
use Rattle.rohc_totals.proofs.line.named_among.Given as goal

-- none of the refusals before has the name
abbrev pub invariant-loop-refusal : goal.invariant-loop-refusal
invariant-loop-refusal l = (k : ℕ) → k < l.refusal-index → l.name ≡ name_of (get_or l.refusals k Empty) → ⊥

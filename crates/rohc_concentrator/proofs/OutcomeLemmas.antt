-- Outcomes that aren't `NoMemory`.
use Rattle.std.proofs.Common.{◌≡◌, ◌≢◌, false, refl, rules}
use Rattle.rohc_context.specs.declared.refusal.Refusal.TheVariants as refusals
use Rattle.rohc_context.specs.declared.reply.Outcome.{Outcome}
use Rattle.rohc_context.specs.declared.reply.Outcome.TheVariants as outcomes
use Rattle.rohc_concentrator.specs.Report.{is_no_memory}

-- an outcome that isn't `NoMemory`
pub is_no_memory-not : (o : Outcome) → o ≢ outcomes.Refused refusals.NoMemory → is_no_memory o ≡ false
is_no_memory-not outcomes.Delivered rich = refl
is_no_memory-not outcomes.Stored rich = refl
is_no_memory-not (outcomes.Refused refusal) rich = search rules

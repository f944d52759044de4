use Rattle.std.proofs.Common.{inl, Err, refl, ap, ◌∙◌}
use Rattle.rohc_saved.proofs.ReadingLemmas.{either_by}
use Rattle.rohc_saved.proofs.link_restoring.read_whole.Goals as goal

pub returns-in-Err-NoMemory : goal.returns-in-Err-NoMemory
returns-in-Err-NoMemory c = record { reads = inl (refl, either_by (λ poor. poor.1) (λ stop. stop ∙ ap Err c.in-Err-NoMemory.field-0-is) c.in-Err-NoMemory.ensures.reads) }

use Rattle.rohc_context.proofs.ModeLemmas.{saves_by_reference}
use Rattle.rohc_context.proofs.laws.saved_by_reference.Goals as goal

pub returns : goal.returns
returns c = saves_by_reference

use Rattle.rohc_context.proofs.ModeLemmas.{keeps_flags}
use Rattle.rohc_context.proofs.laws.kept_flags.Goals as goal

pub returns : goal.returns
returns c = keeps_flags

use Rattle.rohc_context.proofs.ModeLemmas.{is_silent_in_u}
use Rattle.rohc_context.proofs.laws.silent_in_u.Goals as goal

pub returns : goal.returns
returns c = is_silent_in_u

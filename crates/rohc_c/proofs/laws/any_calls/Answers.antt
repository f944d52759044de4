use Rattle.rohc_c.proofs.AnyLemmas.{any_calls}
use Rattle.rohc_c.proofs.laws.any_calls.Goals as goal

pub returns : goal.returns
returns c = any_calls

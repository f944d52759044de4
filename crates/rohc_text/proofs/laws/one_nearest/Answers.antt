use Rattle.rohc_text.proofs.NearestLemmas.{one_nearest}
use Rattle.rohc_text.proofs.laws.one_nearest.Goals as goal

pub returns : goal.returns
returns c = one_nearest

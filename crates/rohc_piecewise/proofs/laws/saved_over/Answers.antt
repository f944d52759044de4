use Rattle.rohc_piecewise.proofs.UnderLemmas.{is_saved}
use Rattle.rohc_piecewise.proofs.laws.saved_over.Goals as goal

pub returns : goal.returns
returns c = is_saved

use Rattle.rohc_links.proofs.UnfitLemmas.{tells_first}
use Rattle.rohc_links.proofs.laws.first_fault_is_told.Goals as goal

pub returns : goal.returns
returns c = tells_first

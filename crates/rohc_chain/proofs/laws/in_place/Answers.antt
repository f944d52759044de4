use Rattle.rohc_chain.proofs.RowLemmas.{rows_in_place}
use Rattle.rohc_chain.proofs.laws.in_place.Goals as goal

pub returns : goal.returns
returns c = rows_in_place

use Rattle.rohc_loop.proofs.LawLemmas.{saves_whole}
use Rattle.rohc_loop.proofs.laws.saves_whole.Goals as goal

pub returns : goal.returns
returns c = saves_whole

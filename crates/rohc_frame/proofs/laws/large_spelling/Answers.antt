use Rattle.rohc_frame.proofs.HeaderLemmas.{spells_large}
use Rattle.rohc_frame.proofs.laws.large_spelling.Goals as goal

pub returns : goal.returns
returns c = spells_large

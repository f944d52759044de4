use Rattle.rohc_saved.proofs.SoundLemmas.{comes_back}
use Rattle.rohc_saved.proofs.FallenLemmas.{comes_back_fallen}
use Rattle.rohc_saved.proofs.laws.comes_back.Goals as goal

pub returns-clause-whole : goal.returns-clause-whole
returns-clause-whole c = comes_back

pub returns-clause-fallen : goal.returns-clause-fallen
returns-clause-fallen c = comes_back_fallen

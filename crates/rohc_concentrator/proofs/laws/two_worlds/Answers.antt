use Rattle.rohc_concentrator.proofs.WorldLemmas.{two_worlds}
use Rattle.rohc_concentrator.proofs.laws.two_worlds.Goals as goal

pub returns : goal.returns
returns c = two_worlds

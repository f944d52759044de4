use Rattle.rohc_station.proofs.LifeLemmas.{same_lives, same_link_lives}
use Rattle.rohc_station.proofs.laws.same_lives.Goals as goal

pub returns-clause-cids : goal.returns-clause-cids
returns-clause-cids c = same_lives

pub returns-clause-links : goal.returns-clause-links
returns-clause-links c = same_link_lives

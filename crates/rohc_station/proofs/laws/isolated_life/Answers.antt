use Rattle.rohc_station.proofs.LifeLemmas.{isolated_life, isolated_link_life}
use Rattle.rohc_station.proofs.laws.isolated_life.Goals as goal

pub returns-clause-cids : goal.returns-clause-cids
returns-clause-cids c = isolated_life

pub returns-clause-links : goal.returns-clause-links
returns-clause-links c = isolated_link_life

use Rattle.rohc_station.proofs.LifeLemmas.{life_is_run, life_keeps_sound}
use Rattle.rohc_station.proofs.laws.whole_life.Goals as goal

pub returns-clause-runs : goal.returns-clause-runs
returns-clause-runs c = life_is_run

pub returns-clause-sound : goal.returns-clause-sound
returns-clause-sound c = life_keeps_sound

use Rattle.rohc_station.proofs.MovingLemmas.{move_is_life, moved_goes_on}
use Rattle.rohc_station.proofs.laws.moved_link.Goals as goal

pub returns-clause-life : goal.returns-clause-life
returns-clause-life c = move_is_life

pub returns-clause-goes_on : goal.returns-clause-goes_on
returns-clause-goes_on c = moved_goes_on

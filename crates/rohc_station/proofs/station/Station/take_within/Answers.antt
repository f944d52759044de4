use Rattle.rohc_station.proofs.AnsweringLemmas.{takes_within}
use Rattle.rohc_station.proofs.station.Station.take_within.Goals as goal

pub returns-else-turns_away : goal.returns-else-turns_away
returns-else-turns_away c =
    takes_within _ _ _ _ _ _ _ _ c.requires.limiter c.requires.begins c.turns_away.ensures c.if-turns_away.false c.take_allowed.ensures

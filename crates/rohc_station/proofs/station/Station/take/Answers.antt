use Rattle.rohc_station.proofs.AnsweringLemmas.{takes_read}
use Rattle.rohc_station.proofs.station.Station.take.Goals as goal

pub returns : goal.returns
returns c =
    takes_read _ _ c.limiter_of-limiter.result _ c.in-Some.arrival c.trimmed_by-arrival.result _ c.in-Some.is c.limiter_of-limiter.ensures
    c.trimmed_by-arrival.ensures _ _ c.second_of.ensures c.take_within.ensures

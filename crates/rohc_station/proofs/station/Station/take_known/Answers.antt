use Rattle.rohc_station.proofs.AnsweringLemmas.{takes_standing}
use Rattle.rohc_station.proofs.station.Station.take_known.Goals as goal

pub returns-else-begins_call : goal.returns-else-begins_call
returns-else-begins_call c =
    takes_standing _ _ c.limiter_of-limiter.result _ c.in-Some.arrival c.trimmed_by-arrival.result _ c.in-Some.is c.limiter_of-limiter.ensures
    c.trimmed_by-arrival.ensures _ _ _ c.second_of.ensures c.if-begins_call.false c.begins_call.ensures c.take_within.ensures

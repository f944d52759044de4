use Rattle.rohc_station.proofs.AnsweringLemmas.{answers_read}
use Rattle.rohc_station.proofs.station.Station.answer.Goals as goal

pub returns : goal.returns
returns g c =
    answers_read _ _ _ _ _ _ _ _ _ _ _ _ c.take_under-taken.ensures c.number_in-number.ensures c.send_all-failed.ensures c.link_in.ensures
    c.count_failures.ensures

use Rattle.std.proofs.Common.{[], inl, refl}
use Rattle.std.proofs.lemmas.Result.{err_from_is_err_and}
use Rattle.rohc_station.proofs.station.Station.reload.Goals as goal

-- without memory for the counts nothing is called
pub returns-in_err-counters-clause-stays : goal.returns-in_err-counters-clause-stays
returns-in_err-counters-clause-stays c =
    let p = err_from_is_err_and c.from_residual-in_err-counters.result c.from_residual-in_err-counters.ensures.1 in
    rw (p.1, p.2) ([], inl (refl, refl))

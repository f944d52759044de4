use Rattle.std.proofs.Common.{sym}
use Rattle.rohc_station.proofs.station.Station.ahead.Goals as goal

-- the tables have each link's setting
pub returns-in-Some : goal.returns-in-Some
returns-in-Some c =
    let place = c.tables.ensures.tables.there c.args.arrival.now.link c.in-Some.records.now (sym c.in-Some.ensures.value) in
    rw place.setting c.ahead_on.ensures

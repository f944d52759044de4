use Rattle.std.proofs.Common.{◌≡◌, sym}
use Rattle.rohc_concentrator.specs.Tables.{record_at, record_in}
use Rattle.rohc_station.proofs.station.begins_call.Goals as goal

-- the tables have each link's setting and its records
pub returns-in-Some : goal.returns-in-Some
returns-in-Some c =
    let place = c.tables.ensures.tables.there c.args.arrival.now.link c.in-Some.records.now (sym c.in-Some.ensures.value) in
    let records : record_at c.args.concentrator.now c.args.arrival.now.link ≡ record_in c.in-Some.records.now = λ i cid. place.records cid i in
    rw (place.setting, records) c.begins_on.ensures

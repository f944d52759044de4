use Rattle.std.proofs.Common.{sym, refl}
use Rattle.rohc_station.proofs.preview.lost_on.Goals as goal

-- the tables have each link's setting and CIDs
pub returns-in-Some : goal.returns-in-Some
returns-in-Some c =
    let place = c.tables.ensures.tables.there c.args.setting.now.link c.in-Some.records.now (sym c.in-Some.ensures.value) in
    rw (place.setting, place.identifiers) c.lost_in.ensures

pub returns-in-None : goal.returns-in-None
returns-in-None c = rw (c.tables.ensures.tables.absent c.args.setting.now.link (sym c.in-None.ensures.value)) refl

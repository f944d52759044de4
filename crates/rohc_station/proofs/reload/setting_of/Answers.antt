use Rattle.std.proofs.Common.{sym}
use Rattle.rohc_station.proofs.reload.setting_of.Goals as goal

pub returns-in-Some : goal.returns-in-Some
returns-in-Some c = sym ((c.tables.ensures.tables.there c.args.link c.in-Some.records.now (sym c.in-Some.ensures.value)).setting)

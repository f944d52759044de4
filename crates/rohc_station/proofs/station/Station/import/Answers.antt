use Rattle.std.proofs.Common.{refl}
use Rattle.rohc_station.proofs.MovingLemmas.{imports_if}
use Rattle.rohc_station.proofs.station.Station.import.Goals as goal

pub returns : goal.returns
returns c =
    imports_if c.args.self.now (record c.args.self.now { concentrator = c.restore_link.new.concentrator }) c.args.link c.args.octets.now c.restore_link.result c.restore_link.ensures.restores c.restore_link.ensures.stays c.restore_link.ensures.fault
    (record { counters = refl; by_call = refl; totals = refl; unknown_links = refl; links = refl })

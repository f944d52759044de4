use Rattle.std.proofs.Common.{refl}
use Rattle.rohc_station.proofs.station.Station.turn_away.Goals as goal

pub returns : goal.returns
returns c =
    let refused = c.refuse.ensures in (
      refused.0,
      (
        record c.args.self.now { counters = c.count_turned_away.new.counters },
        record {
          own = c.count_turned_away.ensures.own;
          others = c.count_turned_away.ensures.others;
          by_call = refl;
          concentrator = refl;
          totals = refl;
          unknown_links = refl;
          links = refl;
        },
        refused.1,
      ),
    )

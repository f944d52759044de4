use Rattle.std.proofs.Common.{rules, refl}
use Rattle.rohc_station.specs.Told.{told_of}
use Rattle.rohc_station.proofs.station.Station.take_allowed.Goals as goal

pub returns : goal.returns
returns c =
    let taken = c.take_packet-taken in (
      taken.ensures.0,
      (
        taken.new.self,
        told_of taken.result,
        taken.ensures.1,
        record {
          tells = search rules;
          counts = record {
            own = search rules;
            others = c.count_work.ensures.others;
            by_call = refl;
            concentrator = refl;
            totals = refl;
            unknown_links = refl;
            links = refl;
          };
        },
      ),
    )

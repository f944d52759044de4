use Rattle.std.proofs.Common.{rules, [], ◌∷◌, refl}
use Rattle.rohc_station.specs.Taking.{arrival}
use Rattle.rohc_station.proofs.station.Station.take_packet.Goals as goal

pub returns : goal.returns
returns c =
    let event = c.arrive_into.ensures.event in
    let report = event.0 in (
      arrival c.args.arrival.link c.args.arrival.moment c.args.arrival.packet.now report ∷ [],
      record {
        report = report;
        these = refl;
        call = event.2;
        is_repaired = event.1;
        repaired = event.3;
        tells = search rules;
        counts = search rules;
        others = search rules;
        is_uncounted = c.count_call-is_uncounted.result;
        counts_call = search rules;
        totals = search rules;
        unknown_links = search rules;
        links = search rules;
      },
    )

use Rattle.std.proofs.Common.{refl}
use Rattle.rohc_concentrator.specs.Tables.{record_at}
use Rattle.rohc_concentrator.proofs.PlaceLemmas.{lent_at}
use Rattle.rohc_concentrator.proofs.LinkPlaceLemmas.{answered_by, repaired_by, arrives_by, missed_by}
use Rattle.rohc_concentrator.proofs.concentrator.Concentrator.take_later.Goals as goal

pub refused-requires : goal.refused-requires
refused-requires g c κs = ((refl, tt), c.requires.room _ (record_at c.args.self.now c.args.link) (rw c.in_default.ensures.absent refl))

pub take_later-requires : goal.take_later-requires
take_later-requires g c κs =
    let lent = c.pair_mut-records.ensures in
    let at = lent_at c.args.self.now.links c.in-Some.place c.args.link c.in-Some.ensures.there _ _ lent.value in (
      (refl, tt),
      (
        missed_by c.args.self.now c.args.self.now.hints c.in-Some.place c.args.link _ c.pair_mut-records.result.1.now lent.unique at c.args.moment c.args.octets.now c.requires.missed,
        λ report after is. c.requires.room report after (answered_by c.args.self.now c.args.self.now.hints c.in-Some.place c.args.link _ c.pair_mut-records.result.1.now lent.unique at c.args.moment c.args.octets.now report after is),
      ),
    )

pub returns : goal.returns
returns g c = record {
  event =
      let lent = c.pair_mut-records.ensures in
      let at = lent_at c.args.self.now.links c.in-Some.place c.args.link c.in-Some.ensures.there _ _ lent.value in (
        c.take_later.ensures.0,
        c.take_later.ensures.1,
        arrives_by c.args.self.now _ c.in-Some.place c.args.link _ c.take_later.new.records lent.unique at c.args.moment c.args.octets.now _ c.take_later.ensures.2,
        repaired_by c.args.self.now c.args.self.now.hints c.in-Some.place c.args.link _ c.pair_mut-records.result.1.now lent.unique at c.args.moment c.args.octets.now _ _ c.take_later.ensures.3,
        c.take_later.ensures.4,
      );
}

use Rattle.rohc_concentrator.proofs.PlaceLemmas.{lent_at}
use Rattle.rohc_concentrator.proofs.LinkPlaceLemmas.{all_stays, repaired_by, arrives_by, missed_after}
use Rattle.rohc_concentrator.proofs.concentrator.Concentrator.take_first.Goals as goal

pub returns-clause-event : goal.returns-clause-event
returns-clause-event c =
    let lent = c.pair_mut-records.ensures in
    let at = lent_at c.args.self.now.links c.in-Some.place c.args.link c.in-Some.ensures.there _ _ lent.value in
    arrives_by c.args.self.now _ c.in-Some.place c.args.link _ c.take_first.new.records lent.unique at c.args.moment c.args.octets.now _ c.in-Some-take_first.ensures.taken

pub returns-in_default-take_first-clause-missed : goal.returns-in_default-take_first-clause-missed
returns-in_default-take_first-clause-missed c =
    let lent = c.pair_mut-records.ensures in
    let at = lent_at c.args.self.now.links c.in-Some.place c.args.link c.in-Some.ensures.there _ _ lent.value in
    missed_after c.args.self.now c.args.self.now.hints c.in-Some.place c.args.link _ c.take_first.new.records lent.unique at c.args.moment c.args.octets.now c.in_default-take_first.ensures.stays c.in_default-take_first.ensures.missed

pub returns-in_default-take_first-clause-stays : goal.returns-in_default-take_first-clause-stays
returns-in_default-take_first-clause-stays c =
    let lent = c.pair_mut-records.ensures in
    let at = lent_at c.args.self.now.links c.in-Some.place c.args.link c.in-Some.ensures.there _ _ lent.value in
    all_stays c.args.self.now c.args.self.now.hints c.in-Some.place c.args.link _ c.take_first.new.records lent.unique at c.in_default-take_first.ensures.stays

pub returns-clause-first : goal.returns-clause-first
returns-clause-first c =
    let lent = c.pair_mut-records.ensures in
    let at = lent_at c.args.self.now.links c.in-Some.place c.args.link c.in-Some.ensures.there _ _ lent.value in
    repaired_by c.args.self.now c.args.self.now.hints c.in-Some.place c.args.link _ c.pair_mut-records.result.1.now lent.unique at c.args.moment c.args.octets.now _ _ c.in-Some-take_first.ensures.first

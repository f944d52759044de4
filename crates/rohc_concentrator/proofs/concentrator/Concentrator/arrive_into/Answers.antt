use Rattle.std.proofs.Common.{refl}
use Rattle.rohc_concentrator.specs.Calls.{Arrive, Reported}
use Rattle.rohc_concentrator.proofs.ArrivedLemmas.{arrived}
use Rattle.rohc_concentrator.proofs.KeepLemmas.{runs_after, answered_after, repaired_after}
use Rattle.rohc_concentrator.proofs.concentrator.Concentrator.arrive_into.Goals as goal

pub rebuilt-requires : goal.rebuilt-requires
rebuilt-requires g c κs = (
  (refl, tt),
  (
    c.in-Some.ensures.long,
    c.requires.room _ _ (arrived c.args.self.now c.take_first.new.self c.args.link c.args.moment c.args.octets.now _ c.in-Some.ensures.event),
  ),
)

pub take_later-requires : goal.take_later-requires
take_later-requires g c κs = (
  (refl, tt),
  (c.in-None.ensures.missed, λ report after is. c.requires.room report after (answered_after _ _ _ _ _ _ after c.in-None.ensures.stays is)),
)

pub returns-in-None : goal.returns-in-None
returns-in-None g c = record {
  event =
      let all = c.take_later.ensures.event in
      let stays = c.in-None.ensures.stays in (
        all.0,
        all.1,
        runs_after c.args.self.now c.take_first.new.self c.args.link (Arrive c.args.moment c.args.octets.now) (Reported all.0) c.take_later.new.self stays all.2,
        repaired_after c.args.self.now c.take_first.new.self c.args.link c.args.moment c.args.octets.now all.0 all.1 stays all.3,
        all.4,
      );
}

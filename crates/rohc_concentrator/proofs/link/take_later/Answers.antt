use Rattle.std.proofs.Common.{rules, refl, ap}
use Rattle.std.proofs.lemmas.Bool.{false≢true}
use Rattle.rohc_concentrator.specs.Report.{Arrived}
use Rattle.rohc_concentrator.specs.Tables.{record_in}
use Rattle.rohc_concentrator.proofs.link.take_later.Goals as goal

pub refused-requires : goal.refused-requires
refused-requires g c κs = ((refl, tt), c.requires.room _ (record_in c.args.records.now) (search rules))

pub only_front-requires : goal.only_front-requires
only_front-requires g c κs = ((refl, tt), c.requires.room _ (record_in c.args.records.now) (search rules))

pub take_left-requires : goal.take_left-requires
take_left-requires g c κs = (
  (refl, tt),
  (
    search rules,
    (
      search rules,
      (
        λ _. c.requires.missed _ c.in-Some.ensures.header (search rules),
        λ response after own. c.requires.room _ (λ _. after)
            (rw c.in-Some.ensures.parts (response, ap (Arrived c.in-Some.forward.cid response) c.none.ensures, own)),
      ),
    ),
  ),
)

pub take_left-requires-2 : goal.take_left-requires-2
take_left-requires-2 g c κs = (
  (refl, tt),
  (
    search rules,
    (
      search rules,
      (
        (λ e. absurd (false≢true e)),
        λ response after own. c.requires.room _ (λ _. after)
            (rw (c.in-Ok.ensures.parts, c.in-Some-forward.is) (response, ap (Arrived c.in-Some-forward.forward.cid response) c.feedback-relayed.ensures, own)),
      ),
    ),
  ),
)

use Rattle.std.proofs.Common.{map}
use Rattle.rohc_replay.specs.AnswerLines.{relay_line, text_of}
use Rattle.rohc_frame.specs.Reading.{elements_of}
use Rattle.rohc_replay.proofs.LineLemmas.{text-relays, text-no_relays}
use Rattle.rohc_replay.proofs.OfferLemmas.{front_more, front_part, front_all, offers_stopped}
use Rattle.rohc_replay.proofs.output.Answers.offer_relays.Goals as goal

pub loop-feedback-preserved : goal.loop-feedback-preserved
loop-feedback-preserved g c =
    let cut = text-relays c.args.link (elements_of c.loop-feedback.feedback-iterator) c.in-Some.feedback.now (elements_of c.next.new.self) c.in-Some.ensures.steps in
    front_more _ _ _ _ _ _ (text_of (map (relay_line c.args.link) (elements_of c.args.relayed))) _ _ _ c.loop-feedback.invariant cut c.in_ok-offer_relay.ensures

pub returns-in_err-offer_relay : goal.returns-in_err-offer_relay
returns-in_err-offer_relay g c =
    let cut = text-relays c.args.link (elements_of c.loop-feedback.feedback-iterator) c.in-Some.feedback.now (elements_of c.next.new.self) c.in-Some.ensures.steps in
    offers_stopped _ _ _ _ _ _ c.from_residual.ensures.0 (front_part _ _ _ _ _ _ (text_of (map (relay_line c.args.link) (elements_of c.args.relayed))) _ _ _ c.loop-feedback.invariant cut c.in_err-offer_relay.ensures)

pub returns : goal.returns
returns g c =
    front_all _ _ _ _ (text_of (map (relay_line c.args.link) (elements_of c.args.relayed))) _ c.loop-feedback.invariant
    (text-no_relays c.args.link (elements_of c.loop-feedback.feedback-iterator) c.in-None.ensures.steps.0)

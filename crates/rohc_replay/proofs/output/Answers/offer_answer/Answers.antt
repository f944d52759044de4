use Rattle.std.proofs.Common.{map}
use Rattle.rohc_context.specs.Response.{response_of}
use Rattle.rohc_frame.specs.Reading.{elements_of}
use Rattle.rohc_replay.specs.AnswerLines.{relay_line, response_lines}
use Rattle.rohc_replay.proofs.LineLemmas.{text-append}
use Rattle.rohc_replay.proofs.OfferLemmas.{offers_more}
use Rattle.rohc_replay.proofs.output.Answers.offer_answer.Goals as goal

pub returns-in_ok-offer_relays-in-Arrived : goal.returns-in_ok-offer_relays-in-Arrived
returns-in_ok-offer_relays-in-Arrived g c =
    let arrived = c.in-Arrived in
    let text = text-append (map (relay_line c.args.link) (elements_of arrived.relayed)) (response_lines c.args.link arrived.cid (response_of arrived.reply)) in
    rw (arrived.is, text) (offers_more _ _ _ _ _ _ _ _ _ c.in_ok-offer_relays-in-Arrived.ensures c.offer_reply.ensures)

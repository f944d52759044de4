use Rattle.std.proofs.Common.{rules}
use Rattle.rohc_replay.specs.AnswerLines.{packet_lines, stored_lines, feedback_lines, refused_lines}
use Rattle.rohc_context.specs.Response.{response_of}
use Rattle.rohc_replay.proofs.LineLemmas.{text-four}
use Rattle.rohc_replay.proofs.OfferLemmas.{offers_more, offers_stopped, part_longer}
use Rattle.rohc_replay.proofs.output.Answers.offer_reply.Goals as goal

pub returns-in_err-offer_packet : goal.returns-in_err-offer_packet
returns-in_err-offer_packet g c =
    let r = response_of c.args.reply.now in
    let text = text-four (packet_lines c.args.link c.args.cid r.packet) (stored_lines c.args.link c.args.cid r.outcome)
    (feedback_lines c.args.link c.args.cid r.feedback) (refused_lines c.args.link c.args.cid r.outcome) in
    offers_stopped _ _ _ _ _ _ c.from_residual.ensures.0 (rw text (part_longer _ _ _ _ _ _ c.in_err-offer_packet.ensures))

pub returns : goal.returns
returns g c =
    let r = response_of c.args.reply.now in
    let text = text-four (packet_lines c.args.link c.args.cid r.packet) (stored_lines c.args.link c.args.cid r.outcome)
    (feedback_lines c.args.link c.args.cid r.feedback) (refused_lines c.args.link c.args.cid r.outcome) in
    rw text (offers_more _ _ _ _ _ _ _ _ _ c.in_ok-offer_packet.ensures
    (rw (c.put_refused.ensures.text, c.put_feedback.ensures.text, c.put_stored.ensures.text, c.clear.ensures.text) at c.offer_line.ensures))

pub returns-then-is_empty : goal.returns-then-is_empty
returns-then-is_empty g c = search rules

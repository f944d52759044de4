use Rattle.std.proofs.Common.{rules, refl, take, [], ◌∷◌, Some, None}
use Rattle.std.proofs.KnownBytes.{Appends-nil}
use Rattle.rohc_replay.proofs.TurnLemmas.{counted_none}
use Rattle.rohc_concentrator.specs.Report.{Refused, report_of}
use Rattle.rohc_context.specs.declared.refusal.Refusal.TheVariants.{NoLink}
use Rattle.rohc_concentrator.specs.Events.{Arrive, Reset}
use Rattle.rohc_replay.specs.Script.{Good, Bad}
use Rattle.rohc_replay.specs.AnswerLines.{report_lines, link_refusal, bad_line}
use Rattle.rohc_replay.proofs.turn.take_turn.Goals as goal

pub returns-in-Some-Arrive : goal.returns-in-Some-Arrive
returns-in-Some-Arrive g c =
    let a = c.in-Some-Arrive in
    record {
      line = Good (Arrive a.link a.moment (take a.size c.read_words.new.packet));
      answers = report_lines a.link (report_of c.arrive-answer.result);
      is_line = (search rules);
      turns = (Some (report_of c.arrive-answer.result), c.arrive-answer.ensures.event, refl);
      tally = search rules;
      offers = c.offer_answer.ensures;
    }

pub returns-in-Ok : goal.returns-in-Ok
returns-in-Ok g c =
    record {
      line = Good (Reset c.in-Some-Reset.link);
      answers = [];
      is_line = (search rules);
      turns = (None, rw c.in-Ok.is at c.reset.ensures.event, refl);
      tally = search rules;
      offers = (Appends-nil (g.W.Write.contents c.args.writer.now), counted_none c.args.counts.now.answers.taken c.args.counts.now.answers.in_range);
    }

pub returns-in-Err : goal.returns-in-Err
returns-in-Err g c =
    record {
      line = Good (Reset c.in-Some-Reset.link);
      answers = link_refusal c.in-Some-Reset.link NoLink ∷ [];
      is_line = (search rules);
      turns = (Some (Refused NoLink), (rw c.in-Err.is at c.reset.ensures.event, refl), refl);
      tally = search rules;
      offers = c.offer_refusal.ensures;
    }

pub returns-in-None : goal.returns-in-None
returns-in-None g c = record {
  line = Bad;
  answers = bad_line ∷ [];
  is_line = (search rules);
  turns = (refl, refl);
  tally = search rules;
  offers = c.offer_text.ensures;
}

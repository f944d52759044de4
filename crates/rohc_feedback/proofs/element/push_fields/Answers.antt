use Rattle.std.proofs.Common.{rules}
use Rattle.rohc_feedback.proofs.Spelled.{feedback_2_alone, two_pushed}
use Rattle.rohc_feedback.proofs.element.push_fields.Goals as goal

pub returns-clause-items : goal.returns-clause-items
returns-clause-items c =
    rw (feedback_2_alone c.args.acktype c.args.sn c.requires.acktype c.requires.number)
    (two_pushed c.args.octets.now.items c.push.new.self.items c.push-2.new.self.items _ _ _ _ c.push.ensures.items c.push-2.ensures.items (search rules) (search rules))

use Rattle.std.proofs.Common.{rules}
use Rattle.rohc_feedback.proofs.Checked.{with_check}
use Rattle.rohc_feedback.proofs.element.push_check.Goals as goal

pub returns-clause-items : goal.returns-clause-items
returns-clause-items c =
    with_check c.args.octets.now.items c.push.new.self.items c.push-2.new.self.items c.deref.result.now c.crc8.result c.crc8-check.result
    c.push.ensures.items c.deref.ensures.0 c.crc8.ensures c.crc8-check.ensures c.push-2.ensures.items (search rules)

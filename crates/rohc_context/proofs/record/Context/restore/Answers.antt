use Rattle.rohc_context.proofs.SavedLemmas.{answers_spelled, answers_only}
use Rattle.rohc_context.proofs.record.Context.restore.Goals as goal

pub returns-clause-spelled : goal.returns-clause-spelled
returns-clause-spelled c = answers_spelled c.args.octets.now c.whole_context.result c.whole_context.ensures.octets c.whole_context.ensures.reads

pub returns-clause-only : goal.returns-clause-only
returns-clause-only c = answers_only c.args.octets.now c.whole_context.result c.whole_context.ensures.reads

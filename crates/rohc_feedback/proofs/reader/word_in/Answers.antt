use Rattle.std.proofs.Common.{rules}
use Rattle.rohc_feedback.proofs.reader.word_in.Goals as goal

pub returns-in_default-2-clause-every : goal.returns-in_default-2-clause-every
returns-in_default-2-clause-every c = search rules

use Rattle.rohc_context.proofs.StepLaws.{has_answer, has_no_other}
use Rattle.rohc_context.proofs.laws.one_answer.Goals as goal

pub returns-clause-exists : goal.returns-clause-exists
returns-clause-exists c = has_answer

pub returns-clause-unique : goal.returns-clause-unique
returns-clause-unique c = has_no_other

use Rattle.rohc_context.proofs.StepLaws.{means_one}
use Rattle.rohc_context.proofs.ModeLemmas.{means_one_unrefused}
use Rattle.rohc_context.proofs.laws.one_meaning.Goals as goal

pub returns-clause-read : goal.returns-clause-read
returns-clause-read c = means_one

pub returns-clause-unrefused : goal.returns-clause-unrefused
returns-clause-unrefused c = means_one_unrefused

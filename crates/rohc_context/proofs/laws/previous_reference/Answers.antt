use Rattle.rohc_context.proofs.ModeLemmas.{keeps_previous, has_one_try}
use Rattle.rohc_context.proofs.laws.previous_reference.Goals as goal

pub returns-clause-keeps : goal.returns-clause-keeps
returns-clause-keeps c = keeps_previous

pub returns-clause-uor2 : goal.returns-clause-uor2
returns-clause-uor2 c = has_one_try

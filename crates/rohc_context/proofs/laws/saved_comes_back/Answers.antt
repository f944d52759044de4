use Rattle.rohc_context.proofs.SavedLemmas.{comes_back, is_spelled}
use Rattle.rohc_context.proofs.laws.saved_comes_back.Goals as goal

pub returns-clause-back : goal.returns-clause-back
returns-clause-back c = comes_back

pub returns-clause-spelled : goal.returns-clause-spelled
returns-clause-spelled c = is_spelled

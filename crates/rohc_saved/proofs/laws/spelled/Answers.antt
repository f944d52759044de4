use Rattle.rohc_saved.proofs.BackLemmas.{read_back}
use Rattle.rohc_saved.proofs.FormOrder.{moment_in_front}
use Rattle.rohc_saved.proofs.SpellsLemmas.{spelled}
use Rattle.rohc_saved.proofs.laws.spelled.Goals as goal

pub returns-clause-spelled : goal.returns-clause-spelled
returns-clause-spelled c = spelled

pub returns-clause-back : goal.returns-clause-back
returns-clause-back c = read_back

pub returns-clause-moment : goal.returns-clause-moment
returns-clause-moment c = moment_in_front

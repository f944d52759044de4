use Rattle.rohc_saved.proofs.RestartLemmas.{cut_by_restart, cut_calls_by_restart}
use Rattle.rohc_saved.proofs.laws.cut_by_restart.Goals as goal

pub returns-clause-events : goal.returns-clause-events
returns-clause-events c = cut_by_restart

pub returns-clause-calls : goal.returns-clause-calls
returns-clause-calls c = cut_calls_by_restart

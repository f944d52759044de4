use Rattle.std.proofs.Common.{rules}
use Rattle.rohc_running.proofs.RunningLemmas.{given_up}
use Rattle.rohc_running.proofs.running.RunningSave.give_up.Goals as goal

pub returns : goal.returns
returns g c = search (rules, given_up)

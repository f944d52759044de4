use Rattle.rohc_serve.proofs.RunLemmas.{served_is_run}
use Rattle.rohc_serve.proofs.laws.served_is_run.Goals as goal

pub returns : goal.returns
returns c = served_is_run

use Rattle.rohc_concentrator.proofs.MarkedLemmas.{lone_run_is_unmarked}
use Rattle.rohc_concentrator.proofs.laws.lone_run_is_unmarked.Goals as goal

pub returns : goal.returns
returns c = lone_run_is_unmarked

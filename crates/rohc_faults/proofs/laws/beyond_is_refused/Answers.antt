use Rattle.rohc_faults.proofs.LimitLemmas.{finds_beyond}
use Rattle.rohc_faults.proofs.laws.beyond_is_refused.Goals as goal

pub returns : goal.returns
returns c = finds_beyond

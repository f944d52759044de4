use Rattle.rohc_lsb.proofs.Once.{one_timestamp}
use Rattle.rohc_lsb.proofs.laws.one_timestamp.Goals as goal

pub returns : goal.returns
returns c = one_timestamp

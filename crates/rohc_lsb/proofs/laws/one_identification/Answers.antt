use Rattle.rohc_lsb.proofs.Once.{one_identification}
use Rattle.rohc_lsb.proofs.laws.one_identification.Goals as goal

pub returns : goal.returns
returns c = one_identification

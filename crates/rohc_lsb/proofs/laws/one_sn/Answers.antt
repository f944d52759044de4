use Rattle.rohc_lsb.proofs.Once.{one_sn}
use Rattle.rohc_lsb.proofs.laws.one_sn.Goals as goal

pub returns : goal.returns
returns c = one_sn

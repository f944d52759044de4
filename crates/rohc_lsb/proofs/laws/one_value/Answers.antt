use Rattle.rohc_lsb.proofs.Meant.{one_value}
use Rattle.rohc_lsb.proofs.laws.one_value.Goals as goal

pub returns : goal.returns
returns c = one_value

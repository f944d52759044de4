use Rattle.rohc_bits.proofs.Fronts.{fronts_agree}
use Rattle.rohc_bits.proofs.laws.one_value.Goals as goal

pub returns : goal.returns
returns c = fronts_agree

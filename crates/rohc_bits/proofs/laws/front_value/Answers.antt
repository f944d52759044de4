use Rattle.rohc_bits.proofs.Fronts.{front_is_spelled}
use Rattle.rohc_bits.proofs.laws.front_value.Goals as goal

pub returns : goal.returns
returns c = front_is_spelled

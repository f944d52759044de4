use Rattle.rohc_bits.proofs.Values.{each_value_of_its_bits}
use Rattle.rohc_bits.proofs.laws.value_bits.Goals as goal

pub returns : goal.returns
returns c = each_value_of_its_bits

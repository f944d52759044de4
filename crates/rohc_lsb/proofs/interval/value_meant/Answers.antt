use Rattle.std.proofs.Common.{arith, pos}
use Rattle.std.proofs.lemmas.Int.{ints}
use Rattle.rohc_bits.specs.LowBits.{low_bits}
use Rattle.rohc_lsb.proofs.Meant.{meant_as}
use Rattle.rohc_lsb.proofs.interval.value_meant.Goals as goal

pub returns : goal.returns
returns c = meant_as (pos c.args.reference) (low_bits c.args.bits) c.args.p _ _ c.steps_meant.ensures.meant (omega (arith, ints))

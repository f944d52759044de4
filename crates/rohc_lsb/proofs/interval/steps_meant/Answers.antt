use Rattle.std.proofs.Common.{arith, pos}
use Rattle.std.proofs.lemmas.Int.{ints}
use Rattle.rohc_bits.specs.LowBits.{low_bits}
use Rattle.rohc_lsb.proofs.Meant.{meant_from}
use Rattle.rohc_lsb.proofs.interval.steps_meant.Goals as goal

pub returns-clause-meant : goal.returns-clause-meant
returns-clause-meant c =
    meant_from (pos c.args.reference) (low_bits c.args.bits) c.args.p _ _ c.remainder-above_least.result
    c.args.bits.fits c.remainder-above_least.ensures (omega (arith, ints)) (omega (arith, ints))

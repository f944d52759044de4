use Rattle.std.proofs.Common.{arith}
use Rattle.rohc_explain.proofs.BitLemmas.{bit_in}
use Rattle.rohc_explain.proofs.bits.bit_at.Goals as goal

pub returns-clause-bit : goal.returns-clause-bit
returns-clause-bit c = grind (arith, c.from-octet.ensures, bit_in c.args.octets.now c.args.place (omega (arith, c.if-index-octets.false)))

use Rattle.std.proofs.Common.{arith, rules}
use Rattle.rohc_checks.specs.Division.{poly8}
use Rattle.rohc_checks.proofs.Computed.{table8}
use Rattle.rohc_checks.proofs.crc.crc8.Goals as goal

pub returns : goal.returns
unfolding poly8
returns c = c.register_after.ensures poly8 (omega arith) table8 (search rules)

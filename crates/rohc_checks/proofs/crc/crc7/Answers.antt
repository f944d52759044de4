use Rattle.std.proofs.Common.{arith, ◌∙◌}
use Rattle.std.proofs.lemmas.Nat.{and_le_r}
use Rattle.rohc_checks.specs.Division.{poly7}
use Rattle.rohc_checks.proofs.Computed.{table7}
use Rattle.rohc_checks.proofs.Division.{check-and}
use Rattle.rohc_checks.proofs.crc.crc7.Goals as goal

pub returns : goal.returns
unfolding poly7
returns c =
    c.register_after.ensures poly7 (omega arith) table7 (omega (arith, and_le_r c.args.reg 127)) ∙ check-and poly7 c.args.reg c.args.octets.now

use Rattle.std.proofs.Common.{arith, ◌∙◌}
use Rattle.std.proofs.lemmas.Nat.{and_le_r}
use Rattle.rohc_checks.specs.Division.{poly3}
use Rattle.rohc_checks.proofs.Computed.{table3}
use Rattle.rohc_checks.proofs.Division.{check-and}
use Rattle.rohc_checks.proofs.crc.crc3.Goals as goal

pub returns : goal.returns
unfolding poly3
returns c =
    c.register_after.ensures poly3 (omega arith) table3 (omega (arith, and_le_r c.args.reg 7)) ∙ check-and poly3 c.args.reg c.args.octets.now

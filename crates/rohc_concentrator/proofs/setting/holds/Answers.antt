use Rattle.std.proofs.Common.{arith}
use Rattle.std.proofs.lemmas.Bool.Decides.{nat_tests}
use Rattle.rohc_concentrator.proofs.setting.holds.Goals as goal

pub returns-then-range-cid : goal.returns-then-range-cid
returns-then-range-cid c = grind (arith, nat_tests)

use Rattle.std.proofs.Common.{arith}
use Rattle.std.proofs.lemmas.Bool.Decides.{nat_tests}
use Rattle.rohc_context.proofs.failures.is_uor_2.Goals as goal

pub returns : goal.returns
returns c = grind (arith, nat_tests)

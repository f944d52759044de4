use Rattle.std.proofs.Common.{arith}
use Rattle.std.proofs.lemmas.Grind.{common_steps}
use Rattle.rohc_c.proofs.arrival.put_long.Goals as goal

pub returns : goal.returns
returns c = grind (arith, common_steps)

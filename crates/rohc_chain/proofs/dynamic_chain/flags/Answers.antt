use Rattle.std.proofs.Common.{arith}
use Rattle.std.proofs.lemmas.Grind.{common_steps}
use Rattle.rohc_chain.specs.Chains.{flags_at}
use Rattle.rohc_chain.proofs.dynamic_chain.flags.Goals as goal

pub returns-clause-reads : goal.returns-clause-reads
unfolding flags_at
returns-clause-reads c = grind (arith, common_steps) steps 500000

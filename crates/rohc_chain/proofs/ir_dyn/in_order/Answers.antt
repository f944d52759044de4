use Rattle.std.proofs.Common.{rules}
use Rattle.rohc_chain.specs.Packets.{ir_dyn_at}
use Rattle.rohc_chain.proofs.ir_dyn.in_order.Goals as goal

pub returns-then-not-fits_chains-clause-reads : goal.returns-then-not-fits_chains-clause-reads
unfolding ir_dyn_at
returns-then-not-fits_chains-clause-reads c = search rules

pub returns-clause-reads : goal.returns-clause-reads
unfolding ir_dyn_at
returns-clause-reads c = search rules

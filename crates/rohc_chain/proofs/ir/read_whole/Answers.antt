use Rattle.std.proofs.Common.{rules}
use Rattle.rohc_chain.specs.Packets.{whole_at}
use Rattle.rohc_chain.proofs.ir.read_whole.Goals as goal

pub returns-in_err-moving : goal.returns-in_err-moving
unfolding whole_at
returns-in_err-moving c = search rules

pub returns-then-not-fits_chains : goal.returns-then-not-fits_chains
unfolding whole_at
returns-then-not-fits_chains c = search rules

pub returns : goal.returns
unfolding whole_at
returns c = search rules

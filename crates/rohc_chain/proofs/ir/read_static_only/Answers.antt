use Rattle.std.proofs.Common.{rules}
use Rattle.rohc_chain.specs.Packets.{static_only_at}
use Rattle.rohc_chain.proofs.ir.read_static_only.Goals as goal

pub returns-then-not-fits_chains : goal.returns-then-not-fits_chains
unfolding static_only_at
returns-then-not-fits_chains c = search rules

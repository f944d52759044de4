use Rattle.std.proofs.Common.{rules}
use Rattle.rohc_chain.specs.Chains.{stride_at}
use Rattle.rohc_chain.proofs.dynamic_chain.stride.Goals as goal

pub returns-in-0-clause-reads : goal.returns-in-0-clause-reads
unfolding stride_at
returns-in-0-clause-reads c = search rules

use Rattle.std.proofs.Common.{rules}
use Rattle.rohc_chain.specs.Chains.{ip_dynamic_at}
use Rattle.rohc_chain.proofs.dynamic_chain.ip_dynamic.Goals as goal

pub returns-clause-reads : goal.returns-clause-reads
unfolding ip_dynamic_at
returns-clause-reads c = search rules

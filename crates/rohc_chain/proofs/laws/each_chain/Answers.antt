use Rattle.rohc_chain.proofs.EachLemmas.{each_static, each_dynamic}
use Rattle.rohc_chain.proofs.laws.each_chain.Goals as goal

pub returns-clause-fixed : goal.returns-clause-fixed
returns-clause-fixed c = each_static

pub returns-clause-moving : goal.returns-clause-moving
returns-clause-moving c = each_dynamic

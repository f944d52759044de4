use Rattle.rohc_chain.proofs.ShownLemmas.{shows_ir, shows_cut_ir, shows_ir_dyn}
use Rattle.rohc_chain.proofs.laws.shown.Goals as goal

pub returns-clause-ir : goal.returns-clause-ir
returns-clause-ir c = shows_ir

pub returns-clause-cut : goal.returns-clause-cut
returns-clause-cut c = shows_cut_ir

pub returns-clause-ir_dyn : goal.returns-clause-ir_dyn
returns-clause-ir_dyn c = shows_ir_dyn

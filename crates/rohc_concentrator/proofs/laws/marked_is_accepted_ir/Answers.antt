use Rattle.rohc_concentrator.proofs.MarkedLemmas.{marked_is_accepted_ir}
use Rattle.rohc_concentrator.proofs.laws.marked_is_accepted_ir.Goals as goal

pub returns : goal.returns
returns c = marked_is_accepted_ir

use Rattle.rohc_context.proofs.ExcessLemmas.{cut_form, cut_dyn, cut_ir, padded_static}
use Rattle.rohc_context.proofs.laws.cut_is_read.Goals as goal

pub returns-clause-forms : goal.returns-clause-forms
returns-clause-forms c = cut_form

pub returns-clause-dyns : goal.returns-clause-dyns
returns-clause-dyns c = cut_dyn

pub returns-clause-irs : goal.returns-clause-irs
returns-clause-irs c = cut_ir

pub returns-clause-statics : goal.returns-clause-statics
returns-clause-statics c = padded_static

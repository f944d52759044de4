use Rattle.rohc_frame.proofs.SplitLemmas.{no_elements_in_none}
use Rattle.rohc_frame.proofs.elements.Elements.none.Goals as goal

pub returns : goal.returns
returns c = no_elements_in_none

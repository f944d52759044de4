use Rattle.rohc_forms.proofs.ShownLemmas.{said_in_place, parts_in_place}
use Rattle.rohc_forms.proofs.laws.in_place.Goals as goal

pub returns-clause-format : goal.returns-clause-format
returns-clause-format c = said_in_place

pub returns-clause-extension_3 : goal.returns-clause-extension_3
returns-clause-extension_3 c = parts_in_place

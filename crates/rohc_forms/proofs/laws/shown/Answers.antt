use Rattle.rohc_forms.proofs.ShownLemmas.{shows_extension_1, shows_extension_2, shows_extension_3}
use Rattle.rohc_forms.proofs.laws.shown.Goals as goal

pub returns-clause-extension_1 : goal.returns-clause-extension_1
returns-clause-extension_1 c = shows_extension_1

pub returns-clause-extension_2 : goal.returns-clause-extension_2
returns-clause-extension_2 c = shows_extension_2

pub returns-clause-extension_3 : goal.returns-clause-extension_3
returns-clause-extension_3 c = shows_extension_3

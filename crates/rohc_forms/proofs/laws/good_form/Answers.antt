use Rattle.rohc_forms.proofs.GoodLemmas.{says_good}
use Rattle.rohc_forms.proofs.laws.good_form.Goals as goal

pub returns : goal.returns
returns c = says_good

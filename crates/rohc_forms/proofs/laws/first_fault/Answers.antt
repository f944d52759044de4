use Rattle.rohc_forms.proofs.SaysLemmas.{refuses}
use Rattle.rohc_forms.proofs.laws.first_fault.Goals as goal

pub returns : goal.returns
returns c = refuses

use Rattle.rohc_forms.proofs.SaysLemmas.{reads, says_one}
use Rattle.rohc_forms.proofs.laws.one_form.Goals as goal

pub returns-clause-reads : goal.returns-clause-reads
returns-clause-reads c = reads

pub returns-clause-unique : goal.returns-clause-unique
returns-clause-unique c = says_one

use Rattle.rohc_concentrator.proofs.OwnLemmas.{same_answers}
use Rattle.rohc_concentrator.proofs.LinkCallLemmas.{same_links}
use Rattle.rohc_concentrator.proofs.laws.same_answers.Goals as goal

pub returns-clause-cids : goal.returns-clause-cids
returns-clause-cids c = same_answers

pub returns-clause-links : goal.returns-clause-links
returns-clause-links c = same_links

use Rattle.rohc_concentrator.proofs.OwnLemmas.{isolated_calls}
use Rattle.rohc_concentrator.proofs.LinkCallLemmas.{isolated_links}
use Rattle.rohc_concentrator.proofs.laws.isolated_calls.Goals as goal

pub returns-clause-cids : goal.returns-clause-cids
returns-clause-cids c = isolated_calls

pub returns-clause-links : goal.returns-clause-links
returns-clause-links c = isolated_links

use Rattle.rohc_saved.proofs.LinkLaws.{link_comes_back}
use Rattle.rohc_saved.proofs.laws.link_comes_back.Goals as goal

pub returns : goal.returns
returns c = link_comes_back

use Rattle.rohc_header.proofs.Split.{splits_whole}
use Rattle.rohc_header.proofs.laws.whole_split.Goals as goal

pub returns : goal.returns
returns c = splits_whole

use Rattle.rohc_frame.proofs.LawLemmas.{header_is_good}
use Rattle.rohc_frame.proofs.laws.good_header.Goals as goal

pub returns : goal.returns
returns c = header_is_good

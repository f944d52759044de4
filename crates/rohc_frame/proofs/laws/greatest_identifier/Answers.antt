use Rattle.rohc_frame.proofs.Greatest.{says_each_identifier}
use Rattle.rohc_frame.proofs.laws.greatest_identifier.Goals as goal

pub returns : goal.returns
returns c = says_each_identifier

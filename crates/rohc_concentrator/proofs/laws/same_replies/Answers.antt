use Rattle.rohc_concentrator.proofs.SameLemmas.{same_replies}
use Rattle.rohc_concentrator.proofs.laws.same_replies.Goals as goal

pub returns : goal.returns
returns c = same_replies

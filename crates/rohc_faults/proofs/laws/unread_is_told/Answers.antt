use Rattle.rohc_faults.proofs.ReadLemmas.{tells_unread}
use Rattle.rohc_faults.proofs.laws.unread_is_told.Goals as goal

pub returns : goal.returns
returns c = tells_unread

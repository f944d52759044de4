use Rattle.rohc_feedback.proofs.Written.{meanings_written}
use Rattle.rohc_feedback.proofs.laws.all_written.Goals as goal

pub returns : goal.returns
returns c = meanings_written

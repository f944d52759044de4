use Rattle.rohc_lsb.proofs.Meant.{window_agrees}
use Rattle.rohc_lsb.proofs.laws.window_agrees.Goals as goal

pub returns : goal.returns
returns c = window_agrees

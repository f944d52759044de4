use Rattle.rohc_piecewise.proofs.ReadLemmas.{read_at_end}
use Rattle.rohc_piecewise.proofs.laws.saved_is_read.Goals as goal

pub returns : goal.returns
returns c = read_at_end

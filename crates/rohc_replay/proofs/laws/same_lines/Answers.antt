use Rattle.rohc_replay.proofs.SameLemmas.{same_lines}
use Rattle.rohc_replay.proofs.laws.same_lines.Goals as goal

pub returns : goal.returns
returns c = same_lines

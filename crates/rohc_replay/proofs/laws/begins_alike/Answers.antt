use Rattle.rohc_replay.proofs.RunLemmas.{begins_alike}
use Rattle.rohc_replay.proofs.laws.begins_alike.Goals as goal

pub returns : goal.returns
returns c = begins_alike

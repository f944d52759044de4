use Rattle.rohc_replay.proofs.ScriptLemmas.{one_script}
use Rattle.rohc_replay.proofs.laws.one_script.Goals as goal

pub returns : goal.returns
returns c = one_script

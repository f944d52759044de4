use Rattle.rohc_replay.proofs.ReplayIsolates.{isolates_where}
use Rattle.rohc_replay.proofs.run.replay.Goals as goal

pub returns-clause-isolated : goal.returns-clause-isolated
returns-clause-isolated g c = isolates_where _ _ _ _ _ _ c.run_script.ensures.whole

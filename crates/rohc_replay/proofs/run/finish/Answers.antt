use Rattle.rohc_replay.proofs.FaultLemmas.{last_line_fails, flush_fails}
use Rattle.rohc_replay.proofs.StreamLemmas.{Replays-end}
use Rattle.rohc_replay.proofs.run.finish.Goals as goal

pub returns-in_default-clause-fault : goal.returns-in_default-clause-fault
returns-in_default-clause-fault g c = λ first held seen s. last_line_fails _ seen _ (c.in_default.ensures.stops first held seen s)

pub returns-in-Ok-flush-clause-whole : goal.returns-in-Ok-flush-clause-whole
returns-in-Ok-flush-clause-whole g c = λ first held seen s.
    Replays-end _ _ seen _ (c.in-Ok.ensures.ends first held seen s) c.flush.ensures.bytes

pub returns-in-Err-clause-fault : goal.returns-in-Err-clause-fault
returns-in-Err-clause-fault g c = λ first held seen s.
    flush_fails _ _ seen _ (c.in-Ok.ensures.ends first held seen s) c.flush.ensures.bytes

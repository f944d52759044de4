use Rattle.rohc_replay.proofs.FrontLemmas.{read_leaves_front, write_leaves_front, flush_leaves_all}
use Rattle.rohc_replay.proofs.laws.faults_leave_a_front.Goals as goal

pub returns-clause-read : goal.returns-clause-read
returns-clause-read c = read_leaves_front

pub returns-clause-write : goal.returns-clause-write
returns-clause-write c = write_leaves_front

pub returns-clause-flush : goal.returns-clause-flush
returns-clause-flush c = flush_leaves_all

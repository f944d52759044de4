use Rattle.rohc_concentrator.proofs.HonestLemmas.{delivers_what_was_sent, asks_ordinary_alone, is_honest_either_way, has_honest_run, has_honest_sender}
use Rattle.rohc_concentrator.proofs.laws.honest_runs.Goals as goal

pub returns-clause-delivered : goal.returns-clause-delivered
returns-clause-delivered c = delivers_what_was_sent

pub returns-clause-ordinary : goal.returns-clause-ordinary
returns-clause-ordinary c = asks_ordinary_alone

pub returns-clause-places : goal.returns-clause-places
returns-clause-places c = is_honest_either_way

pub returns-clause-exists : goal.returns-clause-exists
returns-clause-exists c = has_honest_run

pub returns-clause-sender : goal.returns-clause-sender
returns-clause-sender c = has_honest_sender

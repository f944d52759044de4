use Rattle.rohc_replay.proofs.SentLemmas.{lines_of_what_was_sent}
use Rattle.rohc_replay.proofs.laws.lines_of_what_was_sent.Goals as goal

pub returns : goal.returns
returns c = lines_of_what_was_sent

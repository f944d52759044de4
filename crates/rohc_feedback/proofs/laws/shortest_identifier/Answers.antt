use Rattle.rohc_feedback.proofs.LargeIdentifier.{spelled_identifier, shortest}
use Rattle.rohc_feedback.proofs.laws.shortest_identifier.Goals as goal

pub returns : goal.returns
returns c = λ cid fits. (spelled_identifier cid fits, λ text is. shortest cid text is)

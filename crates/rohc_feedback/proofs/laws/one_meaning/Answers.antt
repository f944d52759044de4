use Rattle.rohc_feedback.proofs.Uniqueness.{meaning_once}
use Rattle.rohc_feedback.proofs.laws.one_meaning.Goals as goal

pub returns : goal.returns
returns c = meaning_once

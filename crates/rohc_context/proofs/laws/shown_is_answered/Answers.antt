use Rattle.rohc_context.proofs.ShownLaws.{answers_as_shown}
use Rattle.rohc_context.proofs.laws.shown_is_answered.Goals as goal

pub returns : goal.returns
returns c = answers_as_shown

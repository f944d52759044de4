use Rattle.rohc_context.proofs.StepLaws.{lends_payload}
use Rattle.rohc_context.proofs.laws.payload_is_lent.Goals as goal

pub returns : goal.returns
returns c = lends_payload

use Rattle.std.proofs.Common.{refl}
use Rattle.rohc_concentrator.proofs.answer.Answer.blank.Goals as goal

pub returns : goal.returns
returns c = rw (c.refused.ensures, c.none.ensures) refl

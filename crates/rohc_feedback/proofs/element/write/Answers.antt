use Rattle.std.proofs.Common.{rules}
use Rattle.rohc_feedback.specs.Element.{octets_of_meaning}
use Rattle.rohc_feedback.proofs.element.write.Goals as goal

pub returns : goal.returns
unfolding octets_of_meaning
returns c = search rules

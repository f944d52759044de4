use Rattle.std.proofs.Common.{refl, sym}
use Rattle.rohc_totals.specs.Answer.{Delivers, Feeds, Refuses}
use Rattle.rohc_totals.proofs.line.read_call_kind.Goals as goal

pub returns-then-is_hex-clause-says : goal.returns-then-is_hex-clause-says
returns-then-is_hex-clause-says c = (Delivers c.in-Some.hex.now, sym c.if-is_hex.ensures, c.in-Some.ensures.some, refl)

pub returns-then-is_hex-2-clause-says : goal.returns-then-is_hex-2-clause-says
returns-then-is_hex-2-clause-says c = (Feeds c.in-Some-after_feedback.hex.now, sym c.if-is_hex-2.ensures, c.in-Some-after_feedback.ensures.some, c.feedback_kind.ensures)

pub returns-clause-says : goal.returns-clause-says
returns-clause-says c = (Refuses c.in_ok-refusal.refusal, tt, c.in_ok-refusal.ensures.named, refl)

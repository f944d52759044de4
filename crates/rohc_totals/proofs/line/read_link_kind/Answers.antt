use Rattle.std.proofs.Common.{refl, sym}
use Rattle.rohc_totals.specs.Answer.{Relays, LinkRefuses}
use Rattle.rohc_totals.proofs.line.read_link_kind.Goals as goal

pub returns-then-is_hex-clause-says : goal.returns-then-is_hex-clause-says
returns-then-is_hex-clause-says c = (Relays c.in-Some.hex.now, sym c.if-is_hex.ensures, c.in-Some.ensures.some, refl)

pub returns-in_ok-refusal-clause-says : goal.returns-in_ok-refusal-clause-says
returns-in_ok-refusal-clause-says c = (LinkRefuses c.in_ok-refusal.refusal, tt, c.in_ok-refusal.ensures.named, refl)

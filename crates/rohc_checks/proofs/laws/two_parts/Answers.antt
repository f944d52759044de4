use Rattle.rohc_checks.proofs.Division.{check-append}
use Rattle.rohc_checks.proofs.laws.two_parts.Goals as goal

pub returns : goal.returns
returns c = check-append

use Rattle.rohc_report.proofs.EscapedLemmas.{stays_text}
use Rattle.rohc_report.proofs.laws.stays_text.Goals as goal

pub returns : goal.returns
returns c = stays_text

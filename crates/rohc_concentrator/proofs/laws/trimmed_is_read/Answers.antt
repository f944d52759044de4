use Rattle.rohc_concentrator.proofs.TrimmedLemmas.{trimmed_is_read}
use Rattle.rohc_concentrator.proofs.laws.trimmed_is_read.Goals as goal

pub returns : goal.returns
returns c = trimmed_is_read

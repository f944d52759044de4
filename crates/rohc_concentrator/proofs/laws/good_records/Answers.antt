use Rattle.rohc_concentrator.proofs.GoodLemmas.{good_record_at}
use Rattle.rohc_concentrator.proofs.laws.good_records.Goals as goal

pub returns : goal.returns
returns c = good_record_at

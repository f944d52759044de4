use Rattle.rohc_station.proofs.ShownLemmas.{names_stay_text}
use Rattle.rohc_station.proofs.laws.names_stay_text.Goals as goal

pub returns : goal.returns
returns c = names_stay_text

use Rattle.rohc_station.proofs.ServiceLemmas.{serves_in_life}
use Rattle.rohc_station.proofs.laws.served_is_life.Goals as goal

pub returns : goal.returns
returns c = serves_in_life

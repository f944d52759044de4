use Rattle.rohc_station.proofs.PreviewLemmas.{preview_is_reload}
use Rattle.rohc_station.proofs.laws.preview_is_reload.Goals as goal

pub returns : goal.returns
returns c = preview_is_reload

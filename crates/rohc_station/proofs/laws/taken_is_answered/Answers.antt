use Rattle.std.proofs.Common.{ap}
use Rattle.rohc_station.specs.Told.{Told}
use Rattle.rohc_station.proofs.laws.taken_is_answered.Goals as goal

pub returns : goal.returns
returns c old new t told calls p = (p.report, p.call, ap (λ (told : Told). told.outgoing) p.tells)

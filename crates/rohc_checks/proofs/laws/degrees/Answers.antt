use Rattle.std.proofs.Common.{refl}
use Rattle.rohc_checks.specs.Division.{poly3, poly7, poly8}
use Rattle.rohc_checks.proofs.laws.degrees.Goals as goal

pub returns-clause-three : goal.returns-clause-three
unfolding poly3
returns-clause-three c = (refl, refl)

pub returns-clause-seven : goal.returns-clause-seven
unfolding poly7
returns-clause-seven c = (refl, refl)

pub returns-clause-eight : goal.returns-clause-eight
unfolding poly8
returns-clause-eight c = (refl, refl)

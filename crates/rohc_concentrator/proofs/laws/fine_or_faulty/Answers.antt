use Rattle.rohc_concentrator.proofs.SetupLaws.{faulty_is_not_fine, fine_or_faulty, one_fault}
use Rattle.rohc_concentrator.proofs.laws.fine_or_faulty.Goals as goal

pub returns-clause-exclusive : goal.returns-clause-exclusive
returns-clause-exclusive c = faulty_is_not_fine

pub returns-clause-either : goal.returns-clause-either
returns-clause-either c = fine_or_faulty

pub returns-clause-one : goal.returns-clause-one
returns-clause-one c = one_fault

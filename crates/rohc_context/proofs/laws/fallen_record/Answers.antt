use Rattle.rohc_context.proofs.FallenLemmas.{stays_good, stays_in_time, falls_as_by_checks, takes_uor_2_alone}
use Rattle.rohc_context.proofs.laws.fallen_record.Goals as goal

pub returns-clause-good : goal.returns-clause-good
returns-clause-good c = stays_good

pub returns-clause-in_time : goal.returns-clause-in_time
returns-clause-in_time c = stays_in_time

pub returns-clause-as_by_checks : goal.returns-clause-as_by_checks
returns-clause-as_by_checks c = falls_as_by_checks

pub returns-clause-uor2 : goal.returns-clause-uor2
returns-clause-uor2 c = takes_uor_2_alone

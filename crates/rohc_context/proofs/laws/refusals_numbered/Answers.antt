use Rattle.rohc_context.proofs.RefusalTable.{has_numbers, numbers_differ, names_differ}
use Rattle.rohc_context.proofs.laws.refusals_numbered.Goals as goal

pub returns-clause-numbers : goal.returns-clause-numbers
returns-clause-numbers c = has_numbers

pub returns-clause-differ : goal.returns-clause-differ
returns-clause-differ c = numbers_differ

pub returns-clause-names : goal.returns-clause-names
returns-clause-names c = names_differ

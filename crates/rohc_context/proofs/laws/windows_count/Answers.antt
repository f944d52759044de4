use Rattle.rohc_context.proofs.CountLemmas.{windows_count, falls_from_full, falls_from_static}
use Rattle.rohc_context.proofs.laws.windows_count.Goals as goal

pub returns-clause-count : goal.returns-clause-count
returns-clause-count c = windows_count

pub returns-clause-full : goal.returns-clause-full
returns-clause-full c = falls_from_full

pub returns-clause-fixed : goal.returns-clause-fixed
returns-clause-fixed c = falls_from_static

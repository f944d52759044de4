use Rattle.std.proofs.Common.{arith}
use Rattle.std.proofs.lemmas.Grind.{common_steps}
use Rattle.rohc_frame.proofs.SplitLemmas.{items_end_at, no_elements_at}
use Rattle.rohc_frame.proofs.cutting.small_plain.Goals as goal

pub returns-clause-front : goal.returns-clause-front
returns-clause-front c = grind (arith, items_end_at, no_elements_at)

pub returns-clause-elements : goal.returns-clause-elements
returns-clause-elements c = grind (arith, items_end_at, no_elements_at)

pub returns-then-front-lt224-clause-front : goal.returns-then-front-lt224-clause-front
returns-then-front-lt224-clause-front c = grind (arith, items_end_at, no_elements_at)

pub returns-then-front-lt224-clause-elements : goal.returns-then-front-lt224-clause-elements
returns-then-front-lt224-clause-elements c = grind (arith, items_end_at, no_elements_at)

pub returns-clause-header : goal.returns-clause-header
returns-clause-header c = grind (arith, common_steps)

pub returns-then-front-lt224-clause-header : goal.returns-then-front-lt224-clause-header
returns-then-front-lt224-clause-header c = grind (arith, common_steps)

pub returns-in_err-first-clause-only : goal.returns-in_err-first-clause-only
returns-in_err-first-clause-only c = grind (arith, common_steps)

pub returns-in_err-front-clause-only : goal.returns-in_err-front-clause-only
returns-in_err-front-clause-only c = grind (arith, common_steps)

pub returns-then-not-contains-clause-only : goal.returns-then-not-contains-clause-only
returns-then-not-contains-clause-only c = grind (arith, common_steps)

pub invariant_of-result : goal.invariant_of-result
invariant_of-result c = grind (arith, common_steps)

pub invariant_of-result-2 : goal.invariant_of-result-2
invariant_of-result-2 c = grind (arith, common_steps)

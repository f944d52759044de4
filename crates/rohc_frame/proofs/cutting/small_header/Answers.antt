use Rattle.std.proofs.Common.{arith}
use Rattle.std.proofs.lemmas.Grind.{common_steps}
use Rattle.rohc_frame.proofs.cutting.small_header.Goals as goal

pub returns-in_default : goal.returns-in_default
returns-in_default c = grind (arith, common_steps)

pub returns-in_err-head_kind : goal.returns-in_err-head_kind
returns-in_err-head_kind c = grind (arith, common_steps)

pub returns-then-not-contains : goal.returns-then-not-contains
returns-then-not-contains c = grind (arith, common_steps)

pub returns-in_err-in_range : goal.returns-in_err-in_range
returns-in_err-in_range c = grind (arith, common_steps)

pub returns-in_err-first : goal.returns-in_err-first
returns-in_err-first c = grind (arith, common_steps)

pub returns-in-224-to-239 : goal.returns-in-224-to-239
returns-in-224-to-239 c = grind (arith, common_steps)

pub returns-in-240-to-247 : goal.returns-in-240-to-247
returns-in-240-to-247 c = grind (arith, common_steps)

pub returns-in_err-kind-in_default-first : goal.returns-in_err-kind-in_default-first
returns-in_err-kind-in_default-first c = grind (arith, common_steps)

pub returns : goal.returns
returns c = grind (arith, common_steps)

pub invariant_of-result : goal.invariant_of-result
invariant_of-result c = grind (arith, common_steps)

pub invariant_of-result-2 : goal.invariant_of-result-2
invariant_of-result-2 c = grind (arith, common_steps)

use Rattle.std.proofs.Common.{rules, arith}
use Rattle.std.proofs.lemmas.Grind.{common_steps}
use Rattle.rohc_bits.proofs.Arithmetic.{written, shortest}
use Rattle.rohc_bits.proofs.value.write_value.Goals as goal

pub returns-in-0-to-127-clause-spelled : goal.returns-in-0-to-127-clause-spelled
returns-in-0-to-127-clause-spelled c = written (λ t. t.items) _ _ (search rules)

pub returns-in-128-to-16383-clause-spelled : goal.returns-in-128-to-16383-clause-spelled
returns-in-128-to-16383-clause-spelled c = written (λ t. t.items) _ _ (grind (arith, common_steps))

pub returns-in-128-to-16383-clause-shortest : goal.returns-in-128-to-16383-clause-shortest
returns-in-128-to-16383-clause-shortest c = shortest (λ t. t.items) _ _ (search rules)

pub returns-in-16384-to-2097151-clause-spelled : goal.returns-in-16384-to-2097151-clause-spelled
returns-in-16384-to-2097151-clause-spelled c = written (λ t. t.items) _ _ (grind (arith, common_steps))

pub returns-in-16384-to-2097151-clause-shortest : goal.returns-in-16384-to-2097151-clause-shortest
returns-in-16384-to-2097151-clause-shortest c = shortest (λ t. t.items) _ _ (search rules)

pub returns-in-2097152-to-536870911-clause-spelled : goal.returns-in-2097152-to-536870911-clause-spelled
returns-in-2097152-to-536870911-clause-spelled c = written (λ t. t.items) _ _ (grind (arith, common_steps))

pub returns-in-2097152-to-536870911-clause-shortest : goal.returns-in-2097152-to-536870911-clause-shortest
returns-in-2097152-to-536870911-clause-shortest c = shortest (λ t. t.items) _ _ (grind (arith, common_steps))

use Rattle.std.proofs.Common.{arith, ◌≡◌, ◌∙◌, ap, ◌-◌, sym}
use Rattle.std.specs.Prelude.{slice_get}
use Rattle.rohc_context.specs.declared.refusal.TheConstants.{ALL}
use Rattle.rohc_context.proofs.RefusalTable.{found_named, stand_at_numbers}
use Rattle.rohc_context.proofs.refusal.Refusal.of_number.Goals as goal

pub returns-clause-some : goal.returns-clause-some
returns-clause-some c = found_named c.args.number c.from.result c.refusal_at.result (omega arith) (omega arith) c.refusal_at.ensures

pub returns-clause-each : goal.returns-clause-each
returns-clause-each c = λ r e. let place : c.from.result ≡ c.args.number - 1 = omega arith in c.refusal_at.ensures ∙ ap (λ n. slice_get ALL n) (place ∙ ap (λ n. n - 1) (sym e)) ∙ stand_at_numbers r

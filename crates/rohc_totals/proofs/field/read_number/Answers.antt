use Rattle.std.proofs.Common.{IsUtf8, sym, subst, ℕ, List, arith}
use Rattle.rohc_totals.proofs.FieldLemmas.{number_utf8}
use Rattle.rohc_totals.proofs.field.read_number.Goals as goal

pub returns-in-Err-clause-none : goal.returns-in-Err-clause-none
returns-in-Err-clause-none c = λ n small is. c.in-Err.ensures.cases.0 (subst (λ (t : List ℕ). IsUtf8 t) (sym is) (number_utf8 n (omega (arith, small))))

use Rattle.std.proofs.Common.{◌≡◌, true, false, ap, sym, ◌∙◌, arith}
use Rattle.std.specs.Fmt.{decimal}
use Rattle.rohc_totals.specs.Answer.{has_space}
use Rattle.rohc_totals.proofs.FieldLemmas.{one_split, space_there, no_space}
use Rattle.rohc_totals.proofs.field.read_field.Goals as goal

pub returns-in_err-word-clause-none : goal.returns-in_err-word-clause-none
returns-in_err-word-clause-none c = rw c.from_residual.ensures (λ n rest small is.
    let there : has_space c.args.text.now ≡ true = ap has_space is ∙ space_there (decimal n) rest in
    let none : has_space c.args.text.now ≡ false = c.in_err-word.ensures.none in
    cc)

pub returns-in-None-clause-none : goal.returns-in-None-clause-none
returns-in-None-clause-none c = λ n rest small is.
    let word = c.in_ok-word.ensures.word in
    let same = one_split c.in_ok-word.word.now (decimal n) c.in_ok-word.rest.now rest word.1 (no_space n (omega (arith, small))) (sym word.0 ∙ is) in
    c.in-None.ensures.none n small same.0

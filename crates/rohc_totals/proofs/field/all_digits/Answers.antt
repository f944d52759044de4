use Rattle.std.proofs.Common.{◌∙◌, ◌&&◌, ap, sym, take}
use Rattle.std.specs.List.{list_all}
use Rattle.std.proofs.lemmas.List.Folds.{list_all_more}
use Rattle.rohc_totals.specs.Answer.{is_digit}
use Rattle.rohc_totals.proofs.field.all_digits.Goals as goal

pub loop-octet-preserved : goal.loop-octet-preserved
loop-octet-preserved c =
    let text = c.args.text.now in
    let i = c.loop-octet.octet-index in
    ap (λ all. all && c.is_digit-all.result) c.loop-octet.invariant
    ∙ ap (λ one. list_all is_digit (take i text) && one) c.is_digit-all.ensures
    ∙ sym (list_all_more is_digit text i 0 c.loop-octet-test.true)

use Rattle.std.proofs.Common.{Some, None}
use Rattle.rohc_totals.proofs.FieldLemmas.{first_found, none_found, parts}
use Rattle.rohc_totals.proofs.field.split_word.Goals as goal

pub returns-in-Some-clause-word : goal.returns-in-Some-clause-word
returns-in-Some-clause-word c =
    let found = first_found c.args.text.now (Some c.in-Some.place) c.in-Some.ensures in
    (parts c.args.text.now c.in-Some.place found.0 found.1, found.2)

pub returns-in-None-clause-none : goal.returns-in-None-clause-none
returns-in-None-clause-none c = none_found c.args.text.now None c.in-None.ensures

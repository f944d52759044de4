use Rattle.std.proofs.Common.{◌≡◌, Some, None, true, ap, sym, ◌∙◌}
use Rattle.std.proofs.lemmas.Bool.Decides.{Decides-eqb}
use Rattle.std.proofs.lemmas.Slice.Eq.{slice_eq-Decides}
use Rattle.rohc_feedback.specs.Element.{octets_of_meaning}
use Rattle.rohc_feedback.proofs.Parts.{octets_some, octets_behind}
use Rattle.rohc_feedback.proofs.reader.read.Goals as goal

pub returns-in_err-data-clause-every : goal.returns-in_err-data-clause-every
returns-in_err-data-clause-every c = λ m good is. absurd (octets_some c.args.size m c.args.text.now is c.in_err-data.ensures.cases)

pub returns-in_err-reading-clause-every : goal.returns-in_err-reading-clause-every
returns-in_err-reading-clause-every c = λ m good is.
    let none : None ≡ Some m = c.in_err-reading.ensures.every m good (octets_behind c.args.size m c.args.text.now _ _ is c.in_ok-data.ensures.cases.0) in
    absurd cc

pub returns-then-eq-clause-every : goal.returns-then-eq-clause-every
returns-then-eq-clause-every c = λ m good is. c.in_ok-reading.ensures.every m good (octets_behind c.args.size m c.args.text.now _ _ is c.in_ok-data.ensures.cases.0)

pub returns-else-eq-clause-every : goal.returns-else-eq-clause-every
returns-else-eq-clause-every c = λ m good is.
    let read : Some c.in_ok-reading.reading ≡ Some m = c.in_ok-reading.ensures.every m good (octets_behind c.args.size m c.args.text.now _ _ is c.in_ok-data.ensures.cases.0) in
    let same : c.in_ok-reading.reading ≡ m = cc in
    let written : c.as_slice.result.now ≡ c.args.text.now = c.as_slice.ensures.value ∙ c.write.ensures ∙ ap (octets_of_meaning c.args.size) same ∙ sym is in
    let equal : c.eq.result ≡ true = (slice_eq-Decides Decides-eqb c.as_slice.result.now c.args.text.now c.eq.result c.eq.ensures).1 written in
    absurd cc

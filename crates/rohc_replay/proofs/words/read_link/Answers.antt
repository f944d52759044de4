use Rattle.std.proofs.Common.{ap, length, arith}
use Rattle.rohc_replay.proofs.NumeralLemmas.{number_unique}
use Rattle.rohc_replay.proofs.SpellingLemmas.{number_alone, no_link}
use Rattle.rohc_replay.proofs.words.read_link.Goals as goal

pub returns-in_err-link-clause-none : goal.returns-in_err-link-clause-none
returns-in_err-link-clause-none c = rw c.from_residual.ensures (λ link small same.
    c.in_err-link.ensures.none link _ (number_alone c.args.text.now link (omega arith) same))

pub returns-then-is_empty-clause-none : goal.returns-then-is_empty-clause-none
returns-then-is_empty-clause-none c = no_link c.args.text.now _ _ c.link_number.result c.link_number.ensures c.in_ok-link.ensures.read

pub returns-else-is_empty-clause-none : goal.returns-else-is_empty-clause-none
returns-else-is_empty-clause-none c link small same =
    let unique = number_unique c.args.text.now _ _ _ _ c.in_ok-link.ensures.read (number_alone c.args.text.now link (omega arith) same) in
    let whole = ap length unique.1 in
    grind arith

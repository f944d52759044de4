use Rattle.std.proofs.Common.{sym, ap, ◌∙◌, arith}
use Rattle.rohc_replay.specs.Numeral.{is_canonical}
use Rattle.rohc_replay.proofs.NumeralLemmas.{number_read, no_number}
use Rattle.rohc_replay.proofs.numeral.number_of.Goals as goal

pub returns-then-is_canonical-clause-read : goal.returns-then-is_canonical-clause-read
returns-then-is_canonical-clause-read c =
    let r = c.requires in
    rw c.split_at.ensures.back (number_read c.args.text.now c.args.size c.args.number r.digits r.value (omega arith) r.ends
    (ap is_canonical (sym c.split_at.ensures.front) ∙ sym c.if-is_canonical.ensures))

pub returns-else-is_canonical-clause-none : goal.returns-else-is_canonical-clause-none
returns-else-is_canonical-clause-none c =
    no_number c.args.text.now c.args.size c.requires.digits c.requires.ends (ap is_canonical (sym c.split_at.ensures.front) ∙ sym c.if-is_canonical.ensures)

use Rattle.std.proofs.Common.{rules, refl}
use Rattle.rohc_totals.proofs.ReadingLemmas.{stands_newline}
use Rattle.rohc_totals.proofs.reading.Progress.end_line.Goals as goal

pub returns-clause-stands : goal.returns-clause-stands
returns-clause-stands c = λ seen. stands_newline seen _ _ _ (search rules) c.in_ok-add.ensures (search rules) refl

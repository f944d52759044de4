use Rattle.rohc_report.proofs.EscapedLemmas.{tame_if}
use Rattle.rohc_report.proofs.escape.escaped.Goals as goal

pub returns-clause-tame : goal.returns-clause-tame
returns-clause-tame c = tame_if (λ text. text.items) c.args.octets.now c.pieces.result c.pieces.ensures

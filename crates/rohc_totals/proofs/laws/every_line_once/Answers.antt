use Rattle.rohc_totals.proofs.SumLemmas.{each_once}
use Rattle.rohc_totals.proofs.laws.every_line_once.Goals as goal

pub returns : goal.returns
returns c = each_once

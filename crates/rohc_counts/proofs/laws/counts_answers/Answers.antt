use Rattle.rohc_counts.proofs.SumLemmas.{counts_answers}
use Rattle.rohc_counts.proofs.laws.counts_answers.Goals as goal

pub returns : goal.returns
returns c = counts_answers

use Rattle.rohc_totals.proofs.StepLemmas.{totals_push}
use Rattle.rohc_totals.proofs.totals.Totals.add.Goals as goal

pub returns : goal.returns
returns c = λ lines are. totals_push lines c.args.line.now c.args.self.now c.step.new.self c.in_ok-step.ensures are

use Rattle.std.proofs.Common.{arith, subst}
use Rattle.std.specs.Prelude.{All}
use Rattle.std.proofs.lemmas.List.{take_all}
use Rattle.rohc_c.specs.Settings.{HasFewRanges}
use Rattle.rohc_c.proofs.SetupLemmas.{few_more}
use Rattle.rohc_c.proofs.setup.judge.Goals as goal

pub loop-index-preserved : goal.loop-index-preserved
loop-index-preserved c =
    few_more c.args.links.now c.loop-index.index _ (omega arith) c.loop-index.invariant c.if-link-gt8.false

pub returns-clause-few : goal.returns-clause-few
returns-clause-few c =
    subst (All HasFewRanges) (take_all c.loop-index.index c.args.links.now (omega arith)) c.loop-index.invariant

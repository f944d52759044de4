use Rattle.std.proofs.Common.{rules, arith, sym}
use Rattle.rohc_concentrator.proofs.SetupLemmas.{sound_more}
use Rattle.rohc_concentrator.proofs.setup.judge.Goals as goal

pub loop-index-preserved : goal.loop-index-preserved
loop-index-preserved c =
    let s = c.index-settings-index in
    sound_more c.args.settings.now c.loop-index.index s.result (omega arith) s.is c.loop-index.invariant (c.if-not-is_good.ensures.0 (search rules)) (sym c.if-names_link.ensures)

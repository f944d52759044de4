use Rattle.std.proofs.Common.{arith}
use Rattle.rohc_station.proofs.NumberLemmas.{counts_more}
use Rattle.rohc_station.proofs.reload.counters_for.Goals as goal

pub loop-setting-preserved : goal.loop-setting-preserved
loop-setting-preserved c =
    counts_more c.args.counters.now c.loop-setting.renewed c.insert.new.self c.args.settings.now c.loop-setting.setting-index c.setting-item.result c.counts_of.result
    (omega arith) c.setting-item.is c.in_ok-insert.ensures.updates c.counts_of.ensures c.loop-setting.invariant

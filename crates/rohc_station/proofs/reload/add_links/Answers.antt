use Rattle.std.proofs.Common.{arith, sym}
use Rattle.rohc_station.proofs.CallLemmas.{on_err}
use Rattle.rohc_station.proofs.AddLemmas.{is_absent, one_added, stops_here, known_stays}
use Rattle.rohc_station.proofs.reload.add_links.Goals as goal
use Rattle.rohc_station.proofs.reload.add_links.Goals.{then-not-is_among+in_ok-add, else-not-is_among}

pub add-requires-clause-absent : goal.add-requires-clause-absent
add-requires-clause-absent c =
    is_absent c.args.concentrator.now c.loop-setting.concentrator c.args.settings.now c.args.numbers.now c.requires.fine c.requires.absent c.loop-setting.setting-index c.setting-item.result (omega arith) c.setting-item.is c.loop-setting.links c.loop-setting.invariant
    (sym c.if-not-is_among.ensures)

pub returns-in_err-add-clause-poor : goal.returns-in_err-add-clause-poor
returns-in_err-add-clause-poor c = on_err c.from_residual.result
    (stops_here c.args.concentrator.now c.loop-setting.concentrator c.args.settings.now c.args.numbers.now c.requires.fine c.requires.absent c.loop-setting.setting-index c.setting-item.result (omega arith) c.setting-item.is c.loop-setting.links c.loop-setting.invariant
    (sym c.if-not-is_among.ensures) c.add.new.concentrator c.in_err-add.ensures.poor)

pub loop-setting-preserved : goal.loop-setting-preserved
loop-setting-preserved c =
    let few = c.requires.fine.few in
    elim c.if-not-is_among.branch [
      | then-not-is_among+in_ok-add w ↦
          rw (w.concentrator-is, w.links-is)
          (one_added c.args.concentrator.now c.loop-setting.concentrator c.args.settings.now c.args.numbers.now c.requires.fine c.requires.absent c.loop-setting.setting-index c.setting-item.result (omega arith) c.setting-item.is c.loop-setting.links c.loop-setting.invariant
          (sym w.if-not-is_among.ensures) w.saturating_add-links.result w.add.new.concentrator w.in_ok-add.ensures.added w.saturating_add-links.ensures (omega arith))
      | else-not-is_among w ↦
          rw (w.concentrator-is, w.links-is)
          (known_stays c.args.concentrator.now c.loop-setting.concentrator c.args.settings.now c.args.numbers.now c.requires.fine c.requires.absent c.loop-setting.setting-index c.setting-item.result (omega arith) c.setting-item.is c.loop-setting.links c.loop-setting.invariant
          (sym w.if-not-is_among.ensures))
    ]

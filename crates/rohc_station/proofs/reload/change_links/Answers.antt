use Rattle.std.proofs.Common.{arith, sym, subst}
use Rattle.rohc_concentrator.specs.declared.setting.LinkSetting.{LinkSetting}
use Rattle.rohc_concentrator.specs.Calls.{ChangeLink, Done}
use Rattle.rohc_concentrator.specs.Leaving.{HaveGone}
use Rattle.rohc_concentrator.specs.RunsCall.{RunsCall}
use Rattle.rohc_concentrator.proofs.SetupLemmas.{clone_is}
use Rattle.rohc_station.proofs.ChangeLemmas.{same_stays, one_changed}
use Rattle.rohc_station.proofs.reload.change_links.Goals as goal
use Rattle.rohc_station.proofs.reload.change_links.Goals.{then-differs+in_ok-clone, else-differs}

pub loop-setting-preserved : goal.loop-setting-preserved
loop-setting-preserved c =
    let k = c.loop-setting.concentrator in
    let s = c.setting-item.result in
    let few = c.requires.few in
    elim c.if-differs.branch [
      | then-differs+in_ok-clone w ↦
          let cases = w.in_ok-clone.ensures.cases in
          let same = clone_is s w.in_ok-clone.field-0 cases.0 cases.1.0 cases.1.1 in
          let next = w.change-gone.new.concentrator in
          let gone = w.change-gone.result in
          rw (w.concentrator-is, w.tally-is)
          (one_changed c.args.concentrator.now k c.args.settings.now c.requires c.loop-setting.setting-index s (omega arith) c.setting-item.is c.loop-setting.tally.links c.loop-setting.tally.contexts c.loop-setting.invariant
          gone next (subst (λ (t : LinkSetting). RunsCall k t.link (ChangeLink t) Done next) same w.change-gone.ensures.call) (subst (λ (t : LinkSetting). HaveGone gone k next t.link) same w.change-gone.ensures.gone)
          w.add.new.self.links w.add.new.self.contexts (sym w.if-differs.ensures) w.add.ensures.links w.add.ensures.contexts (omega arith))
      | else-differs w ↦
          rw (w.concentrator-is, w.tally-is)
          (same_stays c.args.concentrator.now k c.args.settings.now c.requires c.loop-setting.setting-index s (omega arith) c.setting-item.is c.loop-setting.tally.links c.loop-setting.tally.contexts c.loop-setting.invariant
          (sym w.if-differs.ensures))
    ]

use Rattle.std.proofs.Common.{rules, arith, sym, subst}
use Rattle.rohc_concentrator.specs.Setting.{IsGoodSetting}
use Rattle.rohc_concentrator.proofs.SetupLemmas.{clone_is, each_more, in_order_more, empty_more}
use Rattle.rohc_concentrator.proofs.setup.build.Goals as goal

pub loop-setting-preserved : goal.loop-setting-preserved
loop-setting-preserved c =
    let cases = c.in_ok-clone.ensures.cases in
    let s = c.setting-item in
    let same = clone_is s.result c.in_ok-clone.field-0 cases.0 cases.1.0 cases.1.1 in
    let put = c.in_ok-insert.ensures in
    let before = c.loop-setting.invariant in
    record {
      in_order = in_order_more c.loop-setting.links c.insert.new.self c.args.settings.now c.loop-setting.setting-index s.result _ c.requires (omega arith) s.is same put.entries before.each before.in_order;
      each = each_more c.loop-setting.links c.insert.new.self c.args.settings.now c.loop-setting.setting-index s.result _ c.requires (omega arith) s.is same put.updates before.each;
      empty = empty_more c.loop-setting.links c.insert.new.self s.result _ put.updates (λ cid. search rules) before.empty;
    }

pub invariant_of-records : goal.invariant_of-records
invariant_of-records c =
    let cases = c.in_ok-clone.ensures.cases in
    let s = c.setting-item.result in
    let same = clone_is s c.in_ok-clone.field-0 cases.0 cases.1.0 cases.1.1 in
    let own : IsGoodSetting s = rw c.setting-item.is (c.requires.good c.loop-setting.setting-index s (omega arith)) in
    record { good = subst IsGoodSetting (sym same) own }

use Rattle.std.proofs.Common.{◌∙◌, length, List, ap}
use Rattle.rohc_concentrator.specs.declared.setting.LinkSetting.{LinkSetting}
use Rattle.rohc_station.proofs.CallLemmas.{on_err}
use Rattle.rohc_station.proofs.ReloadLemmas.{same_changed, stops_changing, still_absent, few_then, stops_adding, all_run, all_gone}
use Rattle.rohc_station.proofs.reload.bring.Goals as goal

pub returns-in_err-changed-clause-poor : goal.returns-in_err-changed-clause-poor
returns-in_err-changed-clause-poor c =
    let (front, behind, split, run) = c.in_err-changed.ensures.poor in
    on_err c.from_residual.result
    (stops_changing c.args.concentrator.now c.remove_links-removed.new.concentrator c.change_links.new.concentrator c.args.numbers.now c.args.settings.now c.requires.links c.requires.fine c.remove_links-removed.ensures.runs front behind split run)

pub add_links-requires-clause-absent : goal.add_links-requires-clause-absent
add_links-requires-clause-absent c =
    still_absent c.args.concentrator.now c.remove_links-removed.new.concentrator c.change_links.new.concentrator c.args.numbers.now c.args.settings.now c.requires.links c.requires.fine c.remove_links-removed.ensures.runs c.in_ok-changed.ensures.runs

pub add_links-requires-clause-few : goal.add_links-requires-clause-few
add_links-requires-clause-few c =
    few_then c.args.concentrator.now c.remove_links-removed.new.concentrator c.change_links.new.concentrator c.args.numbers.now c.args.settings.now c.requires.links c.requires.fine c.remove_links-removed.ensures.runs c.in_ok-changed.ensures.runs

pub returns-in_err-added-clause-poor : goal.returns-in_err-added-clause-poor
returns-in_err-added-clause-poor c = on_err c.from_residual-in_err-added.result
    (stops_adding c.args.concentrator.now c.remove_links-removed.new.concentrator c.change_links.new.concentrator c.args.numbers.now c.args.settings.now c.requires.links c.requires.fine c.remove_links-removed.ensures.runs c.in_ok-changed.ensures.runs
    c.add_links.new.concentrator c.in_err-added.ensures.poor)

pub returns-clause-runs : goal.returns-clause-runs
returns-clause-runs c =
    all_run c.args.concentrator.now c.remove_links-removed.new.concentrator c.change_links.new.concentrator c.args.numbers.now c.args.settings.now c.requires.links c.requires.fine c.remove_links-removed.ensures.runs c.in_ok-changed.ensures.runs
    c.add_links.new.concentrator c.in_ok-added.ensures.runs

pub returns-clause-tells : goal.returns-clause-tells
returns-clause-tells c = record {
  so_many_added = c.in_ok-added.ensures.links;
  so_many_changed = c.in_ok-changed.ensures.links ∙ ap (λ (ss : List LinkSetting). length ss)
      (same_changed c.args.concentrator.now c.remove_links-removed.new.concentrator c.change_links.new.concentrator c.args.numbers.now c.args.settings.now c.requires.links c.requires.fine c.remove_links-removed.ensures.runs);
  so_many_removed = c.remove_links-removed.ensures.links;
  so_many_gone =
      all_gone c.args.concentrator.now c.remove_links-removed.new.concentrator c.change_links.new.concentrator c.args.numbers.now c.args.settings.now c.requires.links c.requires.fine c.remove_links-removed.ensures.runs c.in_ok-changed.ensures.runs
      c.add_links.new.concentrator c.in_ok-added.ensures.runs c.remove_links-removed.result.contexts c.in_ok-changed.changed.contexts c.saturating_add.result c.remove_links-removed.ensures.contexts c.in_ok-changed.ensures.contexts c.saturating_add.ensures;
}

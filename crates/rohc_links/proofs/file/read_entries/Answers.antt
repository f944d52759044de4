use Rattle.std.proofs.Common.{◌∙◌, ◌≡◌, ◌+◌, drop, sym, Some, Ok, ap, option_map, arith}
use Rattle.toml.specs.Data.{as_table, item}
use Rattle.toml.specs.View.{items_view, view, table_view}
use Rattle.toml.proofs.Views.{items_view-drop}
use Rattle.rohc_links.specs.Entry.{numbered_entry}
use Rattle.rohc_links.proofs.EntryLemmas.{entry_read, others_are_tables}
use Rattle.rohc_links.proofs.file.read_entries.Goals as goal

pub loop-place-preserved : goal.loop-place-preserved
loop-place-preserved c =
    let values = c.args.values.now in
    let place = c.loop-place.place in
    let value = c.index-values-place.result in
    let table = table_view c.unwrap-table.result.now in
    let first : items_view (drop place values) ≡ item (view value) (items_view (drop (place + 1) values)) =
    items_view-drop values place value (omega arith) ∙ ap (λ v. item (view v) (items_view (drop (place + 1) values))) (sym c.index-values-place.is) in
    let is_table : as_table (view value) ≡ Some table = sym c.as_table.ensures ∙ ap (option_map (λ m. table_view m.now)) c.unwrap-table.ensures in
    let good : numbered_entry c.args.version (place + 1) table ≡ Ok (c.in_ok-setting.setting, c.in_ok-setting.ports) = sym c.numbered_entry.ensures ∙ c.in_ok-setting.was in
    let more = c.in_ok-push.ensures in
    record {
      tables = others_are_tables (view value) _ _ first c.loop-place.invariant.tables;
      read = entry_read c.loop-place.links c.push.new.self _ _ (place + 1) c.args.version (view value) table _ _ first is_table good more.settings more.ports ∙ c.loop-place.invariant.read;
    }

use Rattle.std.proofs.Common.{◌∙◌, ◌≡◌, ◌+◌, ◌++◌, ◌∷◌, [], drop, sym, Some, ap, option_map, arith, is_some, true}
use Rattle.toml.specs.Data.{as_table, item}
use Rattle.toml.specs.View.{items_view, view, table_view}
use Rattle.std.proofs.lemmas.List.{drop_all}
use Rattle.toml.proofs.Views.{items_view-drop}
use Rattle.rohc_links.specs.Ranges.{read_each}
use Rattle.rohc_links.proofs.EntryLemmas.{others_are_tables}
use Rattle.rohc_faults.specs.Entry.{number_of, AreFaultsOf}
use Rattle.rohc_faults.proofs.FileLemmas.{leads_on, leads_to}
use Rattle.rohc_faults.proofs.file.all_entries.Goals as goal

pub loop-place-preserved : goal.loop-place-preserved
loop-place-preserved c =
    let values = c.args.values.now in
    let place = c.loop-place.place in
    let value = c.index-values-place.result in
    let ms = table_view c.unwrap-table.result.now in
    let rest = items_view (drop (place + 1) values) in
    let before = c.loop-place.numbers.items in
    let first : items_view (drop place values) ≡ item (view value) rest =
    items_view-drop values place value (omega arith) ∙ ap (λ v. item (view v) rest) (sym c.index-values-place.is) in
    let is_table : as_table (view value) ≡ Some ms = sym c.as_table.ensures ∙ ap (option_map (λ m. table_view m.now)) c.unwrap-table.ensures in
    let tables : is_some (read_each as_table rest) ≡ true = others_are_tables (view value) _ _ first c.loop-place.invariant.tables in
    let one_more : c.push-in-loop-place.new.self.items ≡ before ++ number_of ms ∷ [] =
    c.in_ok-push-2.ensures.items ∙ ap (λ number. before ++ number ∷ []) c.number_of.ensures in
    let are : AreFaultsOf c.args.version before (place + 1) ms c.in_ok-entry_faults.field-0 = rw c.deref.ensures.value at c.in_ok-entry_faults.ensures in
    record {
      tables = tables;
      leads = leads_on c.args.version before c.push-in-loop-place.new.self.items (place + 1) (view value) ms (items_view (drop place values)) rest
          c.loop-place.all.items c.push.new.self.items c.in_ok-entry_faults.field-0 (items_view values)
          first is_table tables are one_more c.in_ok-push.ensures.items c.loop-place.invariant.leads;
    }

pub returns : goal.returns
returns c =
    leads_to c.args.version c.loop-place.numbers.items (c.loop-place.place + 1) (items_view (drop c.loop-place.place c.args.values.now)) c.loop-place.all.items
    (items_view c.args.values.now) (ap items_view (drop_all c.loop-place.place c.args.values.now c.loop-place-test.false)) c.loop-place.invariant.leads

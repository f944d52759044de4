use Rattle.std.proofs.Common.{◌≡◌, ◌+◌, drop, is_some, true}
use Rattle.toml.specs.Data.{as_table}
use Rattle.toml.specs.View.{items_view}
use Rattle.rohc_links.specs.Ranges.{read_each}
use Rattle.rohc_faults.proofs.FileLemmas.{Leads}
use Rattle.rohc_faults.proofs.file.all_entries.Given as goal

-- the values left are tables, and their faults behind these are those of all
abbrev pub invariant-loop-place : goal.invariant-loop-place
invariant-loop-place l = record {
  tables : is_some (read_each as_table (items_view (drop l.place l.values))) ≡ true;
  leads : Leads l.version l.numbers.items (l.place + 1) (items_view (drop l.place l.values)) l.all.items (items_view l.values);
}

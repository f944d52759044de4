use Rattle.std.proofs.Common.{◌≡◌, ◌+◌, drop, option_map, is_some, true}
use Rattle.toml.specs.Data.{as_table}
use Rattle.toml.specs.View.{items_view}
use Rattle.rohc_links.specs.Ranges.{read_each}
use Rattle.rohc_links.specs.Links.{read_from}
use Rattle.rohc_links.proofs.EntryLemmas.{joined}
use Rattle.rohc_links.proofs.file.read_entries.Given as goal

abbrev pub invariant-loop-place : goal.invariant-loop-place
invariant-loop-place l = record {
  tables : is_some (read_each as_table (items_view (drop l.place l.values))) ≡ true;
  read : option_map (λ ts. joined l.links (read_from (l.place + 1) l.version ts)) (read_each as_table (items_view (drop l.place l.values))) ≡ option_map (read_from 1 l.version) (read_each as_table (items_view l.values));
}

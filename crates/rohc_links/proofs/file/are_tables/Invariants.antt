use Rattle.std.proofs.Common.{◌≡◌, drop, is_some}
use Rattle.toml.specs.Data.{as_table}
use Rattle.toml.specs.View.{items_view}
use Rattle.rohc_links.specs.Ranges.{read_each}
use Rattle.rohc_links.proofs.file.are_tables.Given as goal

abbrev pub invariant-loop-value : goal.invariant-loop-value
invariant-loop-value l = is_some (read_each as_table (items_view (drop l.value-index l.values))) ≡ is_some (read_each as_table (items_view l.values))

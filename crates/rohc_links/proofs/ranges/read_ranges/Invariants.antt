use Rattle.std.proofs.Common.{◌≡◌, ◌≤◌, ◌++◌, drop, length, option_map}
use Rattle.toml.specs.View.{items_view}
use Rattle.rohc_links.specs.Ranges.{read_each, range}
use Rattle.rohc_links.proofs.ranges.read_ranges.Given as goal

abbrev pub invariant-loop-value : goal.invariant-loop-value
invariant-loop-value l = record {
  few : length l.values ≤ 8;
  count : length l.ranges.items ≡ l.value-index;
  read : option_map (λ rest. l.ranges.items ++ rest) (read_each range (items_view (drop l.value-index l.values))) ≡ read_each range (items_view l.values);
}

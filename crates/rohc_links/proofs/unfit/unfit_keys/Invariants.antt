use Rattle.std.proofs.Common.{◌≡◌, ◌++◌, drop, not}
use Rattle.std.specs.Prelude.{filter}
use Rattle.toml.specs.View.{table_view}
use Rattle.rohc_links.specs.Unfit.{is_fit, unfit_keys}
use Rattle.rohc_links.proofs.unfit.unfit_keys.Given as goal

abbrev pub invariant-loop-key : goal.invariant-loop-key
invariant-loop-key l = l.unfit.items ++ filter (λ k. not (is_fit k (table_view l.table))) (drop l.key-index l.key-items)
    ≡ unfit_keys l.fn.version (table_view l.table)

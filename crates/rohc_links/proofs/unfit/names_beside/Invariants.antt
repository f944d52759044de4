use Rattle.std.proofs.Common.{◌≡◌, ◌++◌, map}
use Rattle.toml.specs.View.{members_view, table_view}
use Rattle.rohc_links.specs.Unfit.{names_beside}
use Rattle.rohc_links.proofs.unfit.names_beside.Given as goal

abbrev pub invariant-loop-name : goal.invariant-loop-name
invariant-loop-name l = map (λ s. s.now) l.others.items ++ names_beside (map (λ s. s.now) l.names) (members_view l.name-iterator)
    ≡ names_beside (map (λ s. s.now) l.names) (table_view l.table)

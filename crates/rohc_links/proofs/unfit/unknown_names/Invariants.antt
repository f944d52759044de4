use Rattle.std.proofs.Common.{◌≡◌, ◌++◌, map}
use Rattle.toml.specs.View.{members_view, table_view}
use Rattle.rohc_links.specs.Keys.{name_of}
use Rattle.rohc_links.specs.Entry.{keys}
use Rattle.rohc_links.specs.Unfit.{names_beside}
use Rattle.rohc_links.proofs.unfit.unknown_names.Given as goal

abbrev pub invariant-loop-name : goal.invariant-loop-name
invariant-loop-name l = map (λ s. s.now) l.unknown.items ++ names_beside (map name_of (keys l.version)) (members_view l.name-iterator)
    ≡ names_beside (map name_of (keys l.version)) (table_view l.table)

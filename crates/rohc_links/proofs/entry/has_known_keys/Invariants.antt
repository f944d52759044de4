use Rattle.std.proofs.Common.{◌≡◌, map}
use Rattle.toml.specs.View.{members_view, table_view}
use Rattle.rohc_links.specs.Keys.{name_of}
use Rattle.rohc_links.specs.Fields.{has_only}
use Rattle.rohc_links.specs.Entry.{keys}
use Rattle.rohc_links.proofs.entry.has_known_keys.Given as goal

abbrev pub invariant-loop-name : goal.invariant-loop-name
invariant-loop-name l = has_only (map name_of (keys l.version)) (members_view l.name-iterator) ≡ has_only (map name_of (keys l.version)) (table_view l.table)

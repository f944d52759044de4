use Rattle.std.proofs.Common.{◌≡◌, map}
use Rattle.toml.specs.View.{members_view, table_view}
use Rattle.rohc_links.specs.Fields.{has_only}
use Rattle.rohc_links.proofs.fields.has_only.Given as goal

abbrev pub invariant-loop-name : goal.invariant-loop-name
invariant-loop-name l = has_only (map (λ s. s.now) l.names) (members_view l.name-iterator) ≡ has_only (map (λ s. s.now) l.names) (table_view l.table)

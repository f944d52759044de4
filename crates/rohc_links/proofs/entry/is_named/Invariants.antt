use Rattle.std.proofs.Common.{◌≡◌, map, drop}
use Rattle.rohc_links.specs.Keys.{name_of}
use Rattle.rohc_links.specs.Fields.{is_among}
use Rattle.rohc_links.proofs.entry.is_named.Given as goal

abbrev pub invariant-loop-key : goal.invariant-loop-key
invariant-loop-key l = is_among (map name_of (drop l.key-index l.keys)) l.name ≡ is_among (map name_of l.keys) l.name

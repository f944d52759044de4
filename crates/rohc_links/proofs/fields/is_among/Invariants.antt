use Rattle.std.proofs.Common.{◌≡◌, map, drop}
use Rattle.rohc_links.specs.Fields.{is_among}
use Rattle.rohc_links.proofs.fields.is_among.Given as goal

abbrev pub invariant-loop-known : goal.invariant-loop-known
invariant-loop-known l = is_among (map (λ s. s.now) (drop l.known-index l.names)) l.name ≡ is_among (map (λ s. s.now) l.names) l.name

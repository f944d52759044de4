use Rattle.std.proofs.Common.{◌≡◌, take}
use Rattle.rohc_text.specs.Nearest.{IsNearest}
use Rattle.rohc_text.proofs.NearestLemmas.{LeastOf}
use Rattle.rohc_text.proofs.nearest.nearest_name.Given as goal

-- what was found is the nearest so far
abbrev pub invariant-loop-known : goal.invariant-loop-known
invariant-loop-known l = record {
  nearest : IsNearest (λ other. other.now) l.name (take l.known-index l.names) l.nearest;
  least : l.least ≡ LeastOf (λ other. other.now) l.name l.nearest;
}

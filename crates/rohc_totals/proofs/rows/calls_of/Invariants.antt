use Rattle.std.proofs.Common.{◌≡◌, ℕ, take}
use Rattle.std.specs.List.{flat_map}
use Rattle.rohc_totals.specs.declared.totals.LinkTotals.{LinkTotals}
use Rattle.rohc_totals.specs.Rows.{rows_of}
use Rattle.rohc_totals.proofs.rows.calls_of.Given as goal

-- the calls of the links so far
abbrev pub invariant-loop-place : goal.invariant-loop-place
invariant-loop-place l = l.rows.items ≡ flat_map (λ (link : ℕ × LinkTotals). rows_of link.0 link.1) (take l.place l.totals.links.entries)

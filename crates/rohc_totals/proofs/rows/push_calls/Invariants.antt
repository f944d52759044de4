use Rattle.std.proofs.Common.{◌≡◌, ◌++◌, map, take}
use Rattle.rohc_totals.specs.Rows.{row_of}
use Rattle.rohc_totals.proofs.rows.push_calls.Given as goal

-- the calls so far were appended
abbrev pub invariant-loop-place : goal.invariant-loop-place
invariant-loop-place l = l.rows.items ≡ l.fn.rows.items ++ map (row_of l.link) (take l.place l.totals.calls.entries)

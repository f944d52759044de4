use Rattle.std.proofs.Common.{◌≡◌, map, take}
use Rattle.rohc_report.specs.Rows.{row_of}
use Rattle.rohc_report.proofs.worst.rows_of.Given as goal

-- the rows of the calls so far
abbrev pub invariant-loop-place : goal.invariant-loop-place
invariant-loop-place l = l.rows.items ≡ map row_of (take l.place l.calls.calls.entries)

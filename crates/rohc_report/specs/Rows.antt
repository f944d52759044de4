-- The calls as rows. Words: row_of, rows_in.
use Rattle.std.specs.Prelude.{ℕ, ◌/◌, ◌%◌, List, map}
use Rattle.rohc_report.specs.declared.call.CallTotals.{CallTotals}
use Rattle.rohc_report.specs.declared.calls.Calls.{Calls}
use Rattle.rohc_report.specs.declared.worst.CallRow.{CallRow}

-- the row of a call with this key
abbrev pub row_of : ℕ × CallTotals → CallRow
row_of call = record { link = call.0 / 65536; cid = call.0 % 65536; totals = call.1 }

-- the rows of all calls
abbrev pub rows_in : Calls → List CallRow
rows_in calls = map row_of calls.calls.entries

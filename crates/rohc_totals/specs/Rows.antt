-- The calls of all links. Words: row_of, rows_of, rows_in.
use Rattle.std.specs.Prelude.{ℕ, List, map}
use Rattle.std.specs.List.{flat_map}
use Rattle.rohc_totals.specs.declared.call.CallTotals.{CallTotals}
use Rattle.rohc_totals.specs.declared.totals.LinkTotals.{LinkTotals}
use Rattle.rohc_totals.specs.declared.totals.Totals.{Totals}
use Rattle.rohc_totals.specs.declared.rows.CallRow.{CallRow}

-- a call of a link
abbrev pub row_of : ℕ → ℕ × CallTotals → CallRow
row_of link call = record { link = link; cid = call.0; totals = call.1 }

-- the calls of a link
abbrev pub rows_of : ℕ → LinkTotals → List CallRow
rows_of link totals = map (row_of link) totals.calls.entries

-- the calls of all links
abbrev pub rows_in : Totals → List CallRow
rows_in totals = flat_map (λ (link : ℕ × LinkTotals). rows_of link.0 link.1) totals.links.entries

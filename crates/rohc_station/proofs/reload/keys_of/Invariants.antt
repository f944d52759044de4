use Rattle.std.proofs.Common.{◌≡◌, ◌++◌, ℕ, map}
use Rattle.indexmap.specs.IndexMap.{keys}
use Rattle.rohc_concentrator.specs.declared.records.LinkRecords.{LinkRecords}
use Rattle.rohc_station.proofs.reload.keys_of.Given as goal

-- the numbers so far, and those that are left
abbrev pub invariant-loop-link : goal.invariant-loop-link
invariant-loop-link l = l.numbers.items ++ map (λ (e : ℕ × LinkRecords). e.0) l.link-iterator ≡ keys l.tables

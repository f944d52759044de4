use Rattle.std.proofs.Common.{ℕ, nat_eq, take}
use Rattle.indexmap.specs.IndexMap.{get}
use Rattle.rohc_concentrator.specs.Setup.{entry_of}
use Rattle.rohc_station.specs.Counting.{KeepsCounts}
use Rattle.rohc_station.proofs.reload.counters_for.Given as goal

-- the counts for the settings so far
abbrev pub invariant-loop-setting : goal.invariant-loop-setting
invariant-loop-setting l = (n : ℕ) → KeepsCounts (get nat_eq l.counters n) (entry_of n (take l.setting-index l.settings)) (get nat_eq l.renewed n)

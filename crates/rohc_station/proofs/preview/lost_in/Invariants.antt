use Rattle.std.proofs.Common.{◌≡◌, ◌≤◌, ◌-◌, ◌^◌, ℕ, length, map, filter, not}
use Rattle.rohc_context.specs.declared.record.Context.{Context}
use Rattle.rohc_links.specs.Limits.{counted}
use Rattle.rohc_station.specs.Preview.{lost_in, stays}
use Rattle.rohc_station.proofs.preview.lost_in.Given as goal

-- those so far, and those that are left
abbrev pub invariant-loop-cid : goal.invariant-loop-cid
invariant-loop-cid l = (l.lost ≤ 2 ^ 64 - 1)
    × (counted l.lost (length (filter (λ cid. not (stays l.records.setting l.setting cid)) (map (λ (e : ℕ × Context). e.0) l.cid-iterator))) ≡ lost_in l.records l.setting)

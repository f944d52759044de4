use Rattle.std.proofs.Common.{◌≡◌, ◌++◌, map, drop}
use Rattle.rohc_station.specs.Reload.{added}
use Rattle.rohc_station.specs.Preview.{link_of}
use Rattle.rohc_station.proofs.preview.added_links.Given as goal

-- the new links so far, and those that are left
abbrev pub invariant-loop-setting : goal.invariant-loop-setting
invariant-loop-setting l = l.links.items ++ map link_of (added l.numbers (drop l.setting-index l.settings)) ≡ map link_of (added l.numbers l.settings)

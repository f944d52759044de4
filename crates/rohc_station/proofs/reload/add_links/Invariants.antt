use Rattle.std.proofs.Common.{take, drop}
use Rattle.rohc_station.specs.Reload.{added}
use Rattle.rohc_station.proofs.AddLemmas.{Added}
use Rattle.rohc_station.proofs.reload.add_links.Given as goal

-- the new links so far were added, and there is room for the others
abbrev pub invariant-loop-setting : goal.invariant-loop-setting
invariant-loop-setting l = Added l.initial.concentrator (added l.numbers (take l.setting-index l.settings)) (added l.numbers (drop l.setting-index l.settings)) l.links l.concentrator

use Rattle.std.proofs.Common.{take}
use Rattle.rohc_station.specs.Reload.{changed}
use Rattle.rohc_station.proofs.ChangeLemmas.{Changed}
use Rattle.rohc_station.proofs.reload.change_links.Given as goal

-- the settings so far that differed were changed
abbrev pub invariant-loop-setting : goal.invariant-loop-setting
invariant-loop-setting l = Changed l.initial.concentrator (changed l.initial.concentrator (take l.setting-index l.settings)) l.tally.links l.tally.contexts l.concentrator

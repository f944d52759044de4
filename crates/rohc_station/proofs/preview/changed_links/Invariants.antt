use Rattle.std.proofs.Common.{◌≡◌, ◌++◌, map, drop}
use Rattle.rohc_station.specs.Reload.{changed}
use Rattle.rohc_station.specs.Preview.{loss_of_changed}
use Rattle.rohc_station.proofs.preview.changed_links.Given as goal

-- the losses so far, and those that are left
abbrev pub invariant-loop-setting : goal.invariant-loop-setting
invariant-loop-setting l = l.losses.items ++ map (loss_of_changed l.concentrator) (changed l.concentrator (drop l.setting-index l.settings)) ≡ map (loss_of_changed l.concentrator) (changed l.concentrator l.settings)

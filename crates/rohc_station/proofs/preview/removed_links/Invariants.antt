use Rattle.std.proofs.Common.{◌≡◌, ◌++◌, map, drop}
use Rattle.rohc_station.specs.Reload.{removed}
use Rattle.rohc_station.specs.Preview.{loss_of_removed}
use Rattle.rohc_station.proofs.preview.removed_links.Given as goal

-- the losses so far, and those that are left
abbrev pub invariant-loop-link : goal.invariant-loop-link
invariant-loop-link l = l.losses.items ++ map (loss_of_removed l.concentrator) (removed l.settings (drop l.link-index l.numbers)) ≡ map (loss_of_removed l.concentrator) (removed l.settings l.numbers)

use Rattle.std.proofs.Common.{take}
use Rattle.rohc_station.specs.Reload.{removed}
use Rattle.rohc_station.proofs.RemoveLemmas.{Removed}
use Rattle.rohc_station.proofs.reload.remove_links.Given as goal

-- the links so far that the file leaves out were removed
abbrev pub invariant-loop-link : goal.invariant-loop-link
invariant-loop-link l = Removed l.initial.concentrator (removed l.settings (take l.link-index l.numbers)) l.tally.links l.tally.contexts l.concentrator

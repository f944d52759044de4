use Rattle.std.proofs.Common.{◌≡◌, ◌-◌, []}
use Rattle.rohc_saved.specs.Read.{links_in}
use Rattle.rohc_saved.specs.Reading.{links_at}
use Rattle.rohc_saved.proofs.reading.links.Given as goal

-- so many links were read, and the others stand behind
abbrev pub invariant-loop : goal.invariant-loop
invariant-loop l =
    links_at l.total (l.count - l.counter) (links_in l.links) l.cursor ≡ links_at l.total l.count [] l.initial.cursor

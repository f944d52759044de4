use Rattle.std.proofs.Common.{◌≡◌, ◌-◌, []}
use Rattle.rohc_saved.specs.Form.{contexts_in}
use Rattle.rohc_saved.specs.Reading.{contexts_at}
use Rattle.rohc_saved.proofs.reading.contexts.Given as goal

-- so many contexts were read, and the others stand behind
abbrev pub invariant-loop : goal.invariant-loop
invariant-loop l =
    contexts_at l.total l.greatest (l.count - l.counter) (contexts_in l.contexts) l.cursor ≡ contexts_at l.total l.greatest l.count [] l.initial.cursor

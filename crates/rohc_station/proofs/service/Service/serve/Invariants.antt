use Rattle.std.specs.Prelude.{◌≡◌, ℕ, List, Option, length}
use Rattle.rohc_station.specs.Service.{view, TurnsIn}
use Rattle.rohc_station.proofs.service.Service.serve.Given as goal

-- so many receives, and what followed
abbrev pub invariant-loop : goal.invariant-loop
invariant-loop g l = (given : List (Option (ℕ × List ℕ))) × (length given ≡ l.counter)
    × TurnsIn l.port l.duty (view l.initial.self (g.Q.Front.acts l.initial.queue)) given (view l.self (g.Q.Front.acts l.queue))

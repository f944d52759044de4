use Rattle.std.specs.Prelude.{drop}
use Rattle.rohc_station.specs.Held.{held_in}
use Rattle.rohc_station.specs.Service.{View, view, AnswersEach}
use Rattle.rohc_station.proofs.service.Service.answer_held.Given as goal

-- what answers the rest from here answers the whole from the start
abbrev pub invariant-loop-mark : goal.invariant-loop-mark
invariant-loop-mark g l = (new : View) →
    AnswersEach l.duty (view l.self (g.F.Front.acts l.front)) (drop l.mark-index (held_in l.held)) new →
    AnswersEach l.duty (view l.initial.self (g.F.Front.acts l.initial.front)) (held_in l.held) new

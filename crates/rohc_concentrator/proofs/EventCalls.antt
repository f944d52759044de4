-- Events are calls: arrivals and resets.
use Rattle.std.proofs.Common.{List, [], ◌∷◌, map, Option, Some, None}
use Rattle.std.specs.List.{AllByRecursion}
use Rattle.rohc_concentrator.specs.declared.concentrator.Concentrator.{Concentrator}
use Rattle.rohc_concentrator.specs.Report.{Report}
use Rattle.rohc_concentrator.specs.Events.{Event, Arrive, Reset, RunsEvent, RunsEvents}
use Rattle.rohc_concentrator.specs.Laws.{IsFit}
use Rattle.rohc_concentrator.specs.Calls as calls
use Rattle.rohc_concentrator.specs.Calls.{CallAnswer, Reported, Done, NoSuchLink}
use Rattle.rohc_concentrator.specs.RunsCall.{RunsCall, Turn, Runs}
use Rattle.rohc_concentrator.specs.CallLaws.{IsFitTurn}

-- the answer to a reset, by its report
abbrev pub reset_told : Option Report → CallAnswer
reset_told None = Done
reset_told (Some report) = NoSuchLink

-- the answer to an arrival, by its report
abbrev pub arrive_told : Option Report → CallAnswer
arrive_told None = Done
arrive_told (Some report) = Reported report

abbrev pub turn_of : Event × Option Report → Turn
turn_of (Arrive link m octets, report) = record { link = link; call = calls.Arrive m octets; answer = arrive_told report }
turn_of (Reset link, report) = record { link = link; call = calls.Reset; answer = reset_told report }

event_runs : (old new : Concentrator) (event : Event) (report : Option Report) → RunsEvent old event report new
    → (let t = turn_of (event, report) in RunsCall old t.link t.call t.answer new)
event_runs old new (Arrive k m octets) None turn = absurd turn
event_runs old new (Arrive k m octets) (Some report) turn = turn
event_runs old new (Reset k) None turn = turn
event_runs old new (Reset k) (Some report) turn = turn.0

pub events_run : (old new : Concentrator) (turns : List (Event × Option Report)) → RunsEvents old turns new → Runs old (map turn_of turns) new
events_run old new [] run = run
events_run old new ((event, report) ∷ turns) (mid, turn, rest) = (mid, event_runs old mid event report turn, events_run mid new turns rest)

pub fit_turns : (turns : List (Event × Option Report)) → AllByRecursion (λ (turn : Event × Option Report). IsFit turn.0) turns → AllByRecursion IsFitTurn (map turn_of turns)
fit_turns [] fit = tt
fit_turns ((Arrive k m octets, report) ∷ turns) fit = (fit.0, fit_turns turns fit.1)
fit_turns ((Reset k, report) ∷ turns) fit = (tt, fit_turns turns fit.1)

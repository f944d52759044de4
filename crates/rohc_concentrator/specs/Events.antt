-- The events of a concentrator: arrivals and resets, each as one fact. Words: Arrives; Event, RunsEvent,
-- RunsEvents.
use Rattle.std.specs.Prelude.{◌≡◌, ℕ, List, [], ◌∷◌, Option, Some, None}
use Rattle.rohc_context.specs.declared.refusal.Refusal.TheVariants.{NoLink}
use Rattle.rohc_concentrator.specs.declared.concentrator.Concentrator.{Concentrator}
use Rattle.rohc_concentrator.specs.Report.{Report, Refused}
use Rattle.rohc_concentrator.specs.Calls as calls
use Rattle.rohc_concentrator.specs.Calls.{Reported, Done, NoSuchLink}
use Rattle.rohc_concentrator.specs.RunsCall.{RunsCall}

-- a packet of a link arrives at this time and is answered
abbrev pub Arrives : Concentrator → (link moment : ℕ) → List ℕ → Report → Concentrator → Type 0
Arrives old link moment octets report new =
    RunsCall old link (calls.Arrive moment octets) (Reported report) new

-- one call of a concentrator: a packet of a link at a time, or a reset of a link
pub data Event : Type 0 where
  Arrive : ℕ → ℕ → List ℕ → Event
  Reset : ℕ → Event

-- One event: the concentrator before it, the answer, if there is one, and the concentrator after it. A reset
-- has no answer, unless its link isn't there.
abbrev pub RunsEvent : Concentrator → Event → Option Report → Concentrator → Type 0
RunsEvent old (Arrive link moment octets) None new = ⊥
RunsEvent old (Arrive link moment octets) (Some report) new = Arrives old link moment octets report new
RunsEvent old (Reset link) None new = RunsCall old link calls.Reset Done new
RunsEvent old (Reset link) (Some report) new =
    RunsCall old link calls.Reset NoSuchLink new × (report ≡ Refused NoLink)

-- events one after another, each with its answer
abbrev pub RunsEvents : Concentrator → List (Event × Option Report) → Concentrator → Type 0
RunsEvents old [] new = new ≡ old
RunsEvents old ((event, report) ∷ turns) new =
    (mid : Concentrator) × RunsEvent old event report mid × RunsEvents mid turns new

-- What windows count, and when a context falls. Words: marks, failures; Adds; then the laws.
use Rattle.std.specs.Prelude.{◌≡◌, ℕ, ◌≤◌, List, [], ◌∷◌, ◌++◌, take, count_by, Bool, true, false, Some, IfSome, ◌⊎◌, ◌↔◌}
use Rattle.rohc_frame.specs.Header.{Header}
use Rattle.rohc_context.specs.declared.refusal.Refusal.TheVariants.{Check, StateTooLow}
use Rattle.rohc_context.specs.declared.reply.Outcome.{Outcome}
use Rattle.rohc_context.specs.declared.reply.Outcome.TheVariants.{Delivered, Stored, Refused}
use Rattle.rohc_context.specs.declared.settings.Settings.{Settings}
use Rattle.rohc_context.specs.declared.standing.ContextState.TheVariants as states
use Rattle.rohc_context.specs.Settings.{AreGood}
use Rattle.rohc_context.specs.Good.{IsGoodRecord}
use Rattle.rohc_context.specs.Record.{State, StaticContext, FullContext, Record}
use Rattle.rohc_context.specs.Response.{Response}
use Rattle.rohc_context.specs.Lent.{windows_in}
use Rattle.rohc_context.specs.Standing.{context_state_of}
use Rattle.rohc_context.specs.Step.{LoneStep, counts}

-- what an answer adds to a window: a failed check is a failure, an accepted packet a success
abbrev pub marks : Outcome → List Bool
marks (Refused Check) = true ∷ []
marks (Refused refusal) = []
marks Delivered = false ∷ []
marks Stored = false ∷ []

-- in the first window of Static Context a packet that the state doesn't take is a failure too
abbrev pub first_marks : Outcome → List Bool
first_marks (Refused StateTooLow) = true ∷ []
first_marks outcome = marks outcome

-- how many of the last n outcomes are failures
abbrev pub failures : ℕ → List Bool → ℕ
failures n window = count_by (λ failure. failure) (take n window)

-- The windows after an answer: of what was counted and what the answer adds, the last 64. The first window of
-- Static Context may be empty instead, if it is filled. After a change of state or profile all windows are
-- empty.
abbrev pub Adds : Settings → Outcome → (before after : State) → Type 0
Adds s outcome (FullContext fixed reference previous window) (FullContext also held other left) =
    left ≡ take 64 (marks outcome ++ window)
Adds s outcome (StaticContext fixed reference first second) (StaticContext also held left right) =
    (right ≡ take 64 (marks outcome ++ second)) × ((left ≡ take 64 (first_marks outcome ++ first))
    ⊎ ((left ≡ []) × (s.k1 ≤ failures s.n1 (first_marks outcome ++ first))))
Adds s outcome before after = IfSome (windows_in after) (λ windows. windows ≡ ([], []))

-- A window counts the outcomes of the answers since the last change of state or profile.
abbrev pub WindowsCount : Type 0
WindowsCount = (r after : Record) (s : Settings) (moment : ℕ) (h : Header) (response : Response) →
    IsGoodRecord r → AreGood s → counts s moment r ≡ true →
    LoneStep (Some r) s moment h response (Some after) → Adds s response.outcome r.state after.state

-- A failed check leads from Full Context to Static Context exactly if it is one of k1 failures among the last
-- n1 outcomes.
abbrev pub FallsFromFull : Type 0
FallsFromFull = (r after : Record) (s : Settings) (moment : ℕ) (h : Header) (response : Response)
    (window : List Bool) → AreGood s → counts s moment r ≡ true →
    context_state_of r.state ≡ states.FullContext → windows_in r.state ≡ Some (window, []) →
    LoneStep (Some r) s moment h response (Some after) → response.outcome ≡ Refused Check →
    (context_state_of after.state ≡ states.StaticContext) ↔ (s.k1 ≤ failures s.n1 (true ∷ window))

-- It leads from Static Context to No Context exactly if it is one of k2 failures among the last n2 outcomes
-- of the second window.
abbrev pub FallsFromStatic : Type 0
FallsFromStatic = (r after : Record) (s : Settings) (moment : ℕ) (h : Header) (response : Response)
    (first second : List Bool) → AreGood s → counts s moment r ≡ true →
    context_state_of r.state ≡ states.StaticContext → windows_in r.state ≡ Some (first, second) →
    LoneStep (Some r) s moment h response (Some after) → response.outcome ≡ Refused Check →
    (context_state_of after.state ≡ states.NoContext) ↔ (s.k2 ≤ failures s.n2 (true ∷ second))

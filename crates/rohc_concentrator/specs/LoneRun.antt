-- One context, run alone. Words: LoneEvent, LoneRun; MarkedRun (memory may run out); own_arrival.
use Rattle.std.specs.Prelude.{◌≡◌, ℕ, List, [], ◌∷◌, Bool, true, false, ◌==◌, if◌then◌else◌, Option, Some, None}
use Rattle.rohc_frame.specs.Header.{Header}
use Rattle.rohc_context.specs.declared.settings.Settings.{Settings}
use Rattle.rohc_context.specs.Record.{Record}
use Rattle.rohc_context.specs.Response.{Response}
use Rattle.rohc_context.specs.Step.{LoneStep}
use Rattle.rohc_concentrator.specs.declared.setting.LinkSetting.{LinkSetting}
use Rattle.rohc_concentrator.specs.Bears.{header_on}
use Rattle.rohc_concentrator.specs.Report.{IsPoor}

-- what happens to one context: a header arrives at a time, or the context is forgotten
pub data LoneEvent : Type 0 where
  Arrival : ℕ → Header → LoneEvent
  Forget : LoneEvent

-- The lone step over a list of events, from a record or none. A reset leaves none. Each arrival has a reply.
abbrev pub LoneRun : Settings → Option Record → List LoneEvent → List Response → Option Record → Type 0
LoneRun s before [] [] after = after ≡ before
LoneRun s before [] (reply ∷ replies) after = ⊥
LoneRun s before (Forget ∷ events) replies after = LoneRun s None events replies after
LoneRun s before (Arrival moment h ∷ events) [] after = ⊥
LoneRun s before (Arrival moment h ∷ events) (reply ∷ replies) after =
    (mid : Option Record) × LoneStep before s moment h reply mid × LoneRun s mid events replies after

-- An arrival with its mark. Without a mark it is the lone step. With one it is an IR that the lone step
-- accepts, for a CID without a record; it is refused for lack of memory and changes nothing.
abbrev pub MarkedStep : Settings → ℕ → Header → Bool → Option Record → Response → Option Record → Type 0
MarkedStep s moment h false before reply after = LoneStep before s moment h reply after
MarkedStep s moment h true before reply after = IsPoor s moment h before reply after

-- The same where memory may run out: each event has a mark, true if it was refused for lack of memory.
abbrev pub MarkedRun : Settings → Option Record → List (LoneEvent × Bool) → List Response → Option Record
    → Type 0
MarkedRun s before [] [] after = after ≡ before
MarkedRun s before [] (reply ∷ replies) after = ⊥
MarkedRun s before ((Forget, true) ∷ events) replies after = ⊥
MarkedRun s before ((Forget, false) ∷ events) replies after = MarkedRun s None events replies after
MarkedRun s before ((Arrival moment h, mark) ∷ events) [] after = ⊥
MarkedRun s before ((Arrival moment h, mark) ∷ events) (reply ∷ replies) after =
    (mid : Option Record) × MarkedStep s moment h mark before reply mid
    × MarkedRun s mid events replies after

-- the events without a mark
abbrev pub unmarked : List (LoneEvent × Bool) → List LoneEvent
unmarked [] = []
unmarked ((event, mark) ∷ events) = if mark then unmarked events else event ∷ unmarked events

-- an arrival at the context that its header names; nothing for any other context
abbrev pub arrival_of : ℕ → ℕ → Option Header → List LoneEvent
arrival_of cid moment None = []
arrival_of cid moment (Some h) = if h.cid == cid then Arrival moment h ∷ [] else []

-- a packet of a link is an arrival at the context of the CID that it bears
abbrev pub own_arrival : LinkSetting → ℕ → ℕ → List ℕ → List LoneEvent
own_arrival s cid moment octets = arrival_of cid moment (header_on s octets)

-- Isolation: the answers for one CID of one link, whatever comes under the others. Words: Pair, EventRun;
-- own_event, own_events, own_replies, which are a pair's own; IsAnsweredAlone, IsIsolatedRun.
use Rattle.std.specs.Prelude.{◌≡◌, ℕ, List, [], ◌∷◌, ◌++◌, map, filter, Bool, false, not, ◌==◌, if◌then◌else◌, Option, Some, None}
use Rattle.rohc_context.specs.Response.{Response}
use Rattle.rohc_concentrator.specs.declared.concentrator.Concentrator.{Concentrator}
use Rattle.rohc_concentrator.specs.declared.setting.LinkSetting.{LinkSetting}
use Rattle.rohc_concentrator.specs.Setting.{settings_of}
use Rattle.rohc_concentrator.specs.Tables.{setting_at, record_at, KeepsSettings}
use Rattle.rohc_concentrator.specs.Report.{Report, Arrived, OnlyFront, Refused, is_no_memory, wants_memory}
use Rattle.rohc_concentrator.specs.Events.{Event, Arrive, Reset}
use Rattle.rohc_concentrator.specs.LoneRun.{LoneEvent, Forget, LoneRun, MarkedRun, unmarked, own_arrival}

-- a CID of a link, with the setting of the link
pub record Pair : Type 0 where
  pub link : ℕ
  pub cid : ℕ
  pub setting : LinkSetting

-- a run of events from outside: the concentrator before it and after it, and each event with its answer
pub record EventRun : Type 0 where
  pub before : Concentrator
  pub after : Concentrator
  pub turns : List (Event × Option Report)

-- an event as a CID of a link sees it: the link's resets, and the arrivals on the link that bear the CID
abbrev pub own_event : LinkSetting → ℕ → ℕ → Event → List LoneEvent
own_event s l c (Arrive link moment octets) = if link == l then own_arrival s c moment octets else []
own_event s l c (Reset link) = if link == l then Forget ∷ [] else []

-- an event was answered `NoMemory`
abbrev pub is_marked : Option Report → Bool
is_marked None = false
is_marked (Some report) = wants_memory report

-- its own events in their order, each with its mark: true if it was answered `NoMemory`
abbrev pub own_events : LinkSetting → ℕ → ℕ → List (Event × Option Report) → List (LoneEvent × Bool)
own_events s l c [] = []
own_events s l c ((event, report) ∷ turns) =
    map (λ own. (own, is_marked report)) (own_event s l c event) ++ own_events s l c turns

-- the reply of the CID's context, if the answer has one
abbrev pub reply_of : ℕ → Report → List Response
reply_of c (Arrived cid response relayed) = if cid == c then response ∷ [] else []
reply_of c (OnlyFront relayed) = []
reply_of c (Refused refusal) = []

-- if the packet came on the link
abbrev pub own_reply : ℕ → ℕ → Event → Option Report → List Response
own_reply l c (Arrive link moment octets) (Some report) = if link == l then reply_of c report else []
own_reply l c (Arrive link moment octets) None = []
own_reply l c (Reset link) report = []

-- its own replies in their order
abbrev pub own_replies : ℕ → ℕ → List (Event × Option Report) → List Response
own_replies l c [] = []
own_replies l c ((event, report) ∷ turns) = own_reply l c event report ++ own_replies l c turns

-- the reply isn't `NoMemory`
abbrev pub is_rich : Response → Bool
is_rich response = not (is_no_memory response.outcome)

-- What a run answered to one pair: the replies of one context over the pair's own events, each of which is
-- marked exactly if its reply is `NoMemory`. Without the marked events, they are the replies of the context
-- run alone. Both runs lead from the pair's record before to its record after.
pub record IsAnsweredAlone (r : EventRun) (p : Pair) : Type 0 where
  pub answered : MarkedRun (settings_of p.setting p.cid) (record_at r.before p.link p.cid)
      (own_events p.setting p.link p.cid r.turns)
      (own_replies p.link p.cid r.turns) (record_at r.after p.link p.cid)
  pub alone : LoneRun (settings_of p.setting p.cid) (record_at r.before p.link p.cid)
      (unmarked (own_events p.setting p.link p.cid r.turns))
      (filter is_rich (own_replies p.link p.cid r.turns)) (record_at r.after p.link p.cid)

-- Isolation, for all pairs at once. The settings stay, and no reply belongs to a link that isn't there.
pub record IsIsolatedRun (r : EventRun) : Type 0 where
  pub pairs : (p : Pair) → setting_at r.before p.link ≡ Some p.setting → IsAnsweredAlone r p
  pub settings : KeepsSettings r.before r.after
  pub absent : (l c : ℕ) → setting_at r.before l ≡ None → own_replies l c r.turns ≡ []

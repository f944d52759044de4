-- Laws of two concentrators, of what is refused, and of the definitions themselves.
-- Words: Agree (on one CID), AreAlike (on all), IsAcceptedIr, IsFit; then each law.
use Rattle.std.specs.Prelude.{◌≡◌, ℕ, ◌<◌, ◌^◌, List, map, filter, All, Bool, true, false, Option, Some, None, IfSome, unwrap_or, ◌⊎◌, ◌↔◌}
use Rattle.std.specs.List.{AllByRecursion}
use Rattle.rohc_frame.specs.Header.{Header}
use Rattle.rohc_frame.specs.Laws.{IsOctet}
use Rattle.rohc_frame.specs.declared.header.HeadKind.TheVariants.{Ir}
use Rattle.rohc_context.specs.declared.reply.Outcome.TheVariants.{Delivered, Stored}
use Rattle.rohc_context.specs.declared.settings.Settings.{Settings}
use Rattle.rohc_context.specs.Good.{IsGoodRecord}
use Rattle.rohc_context.specs.Record.{Record}
use Rattle.rohc_context.specs.Response.{Response}
use Rattle.rohc_context.specs.Step.{LoneStep}
use Rattle.rohc_concentrator.specs.declared.concentrator.Concentrator.{Concentrator}
use Rattle.rohc_concentrator.specs.declared.setting.LinkSetting.{LinkSetting}
use Rattle.rohc_concentrator.specs.Setting.{settings_of}
use Rattle.rohc_concentrator.specs.Tables.{setting_at, record_at}
use Rattle.rohc_concentrator.specs.Report.{Report, Arrived, OnlyFront, wants_memory, is_refusal, is_refused}
use Rattle.rohc_concentrator.specs.Bears.{borne}
use Rattle.rohc_concentrator.specs.Leaving.{is_expired}
use Rattle.rohc_concentrator.specs.Events.{Arrives, Event, Arrive, Reset, RunsEvents}
use Rattle.rohc_concentrator.specs.Isolation.{EventRun, own_events, own_replies, is_rich, IsIsolatedRun}
use Rattle.rohc_concentrator.specs.declared.setup.SetupFault.{SetupFault}
use Rattle.rohc_concentrator.specs.Setup.{IsFault, AreFine}
use Rattle.rohc_concentrator.specs.LoneRun.{LoneEvent, LoneRun, MarkedStep, MarkedRun, unmarked}

-- two concentrators agree on a CID of a link: on its settings there, and on its record or on none
pub record Agree (a b : Concentrator) (l c : ℕ) : Type 0 where
  pub here : LinkSetting
  pub there : LinkSetting
  pub set_here : setting_at a l ≡ Some here
  pub set_there : setting_at b l ≡ Some there
  pub settings : settings_of here c ≡ settings_of there c
  pub records : record_at a l c ≡ record_at b l c

-- Two worlds: both answer an arrival that bears the CID alike and leave equal records, lack of memory aside.
abbrev pub TwoWorlds : Type 0
TwoWorlds = (a b after_a after_b : Concentrator) (l c moment : ℕ) (octets : List ℕ) (x y : Report) →
    Agree a b l c → moment < 2 ^ 64 → All IsOctet octets → borne (setting_at a l) octets ≡ Some c →
    Arrives a l moment octets x after_a → Arrives b l moment octets y after_b →
    wants_memory x ≡ false → wants_memory y ≡ false →
    (x ≡ y) × (record_at after_a l c ≡ record_at after_b l c)

-- two concentrators are alike: all their settings and all their records are equal
pub record AreAlike (a b : Concentrator) : Type 0 where
  pub settings : (l : ℕ) → setting_at a l ≡ setting_at b l
  pub records : (l c : ℕ) → record_at a l c ≡ record_at b l c

-- No trace: an arrival that is refused makes no record where there was none.
abbrev pub NoTrace : Type 0
NoTrace = (old new : Concentrator) (l moment : ℕ) (octets : List ℕ) (report : Report) →
    Arrives old l moment octets report new → is_refused report ≡ true →
    (c : ℕ) → record_at old l c ≡ None → record_at new l c ≡ None

-- A record that has expired is answered as none is. If the step without a record leaves none, it stays.
abbrev pub ExpiredIsNone : Type 0
ExpiredIsNone = (s : LinkSetting) (cid moment : ℕ) (r : Record) (h : Header) (response : Response)
    (next : Option Record) → is_expired s.settings.idle_ms moment r ≡ true →
    LoneStep (Some r) (settings_of s cid) moment h response next →
    (alone : Option Record) × LoneStep None (settings_of s cid) moment h response alone
    × (next ≡ Some (unwrap_or alone r))

-- An arrival that finds no memory is refused.
abbrev pub WantIsRefusal : Type 0
WantIsRefusal = (report : Report) → wants_memory report ≡ true → is_refused report ≡ true

-- the packet is taken: padding and feedback alone, or a header whose packet is delivered or context stored
abbrev pub IsTakenUp : Report → Type 0
IsTakenUp report =
    ((relayed : List (List ℕ)) × (report ≡ OnlyFront relayed))
    ⊎ ((cid : ℕ) × (response : Response) × (relayed : List (List ℕ)) × (report ≡ Arrived cid response relayed)
    × ((response.outcome ≡ Delivered) ⊎ (response.outcome ≡ Stored)))

-- An arrival is refused exactly if it isn't taken up.
abbrev pub TakenUpOrRefused : Type 0
TakenUpOrRefused = (report : Report) → is_refused report ≡ false ↔ IsTakenUp report

-- An arrival that isn't refused came on a link that is there.
abbrev pub TakenHasALink : Type 0
TakenHasALink = (old new : Concentrator) (l moment : ℕ) (octets : List ℕ) (report : Report) →
    Arrives old l moment octets report new → is_refused report ≡ false →
    (s : LinkSetting) × (setting_at old l ≡ Some s)

-- Every record that a concentrator holds is good.
abbrev pub HoldsGoodRecords : Type 0
HoldsGoodRecords = (k : Concentrator) (l c : ℕ) → IfSome (record_at k l c) IsGoodRecord

-- Settings that have a fault aren't fine.
abbrev pub FaultyIsNotFine : Type 0
FaultyIsNotFine = (settings : List LinkSetting) (fault : SetupFault) →
    IsFault settings fault → ¬ AreFine settings

-- Settings are fine or have a fault.
abbrev pub FineOrFaulty : Type 0
FineOrFaulty = (settings : List LinkSetting) →
    AreFine settings ⊎ ((fault : SetupFault) × IsFault settings fault)

-- Settings have at most one fault.
abbrev pub HasOneFault : Type 0
HasOneFault = (settings : List LinkSetting) (a b : SetupFault) →
    IsFault settings a → IsFault settings b → a ≡ b

-- the header is that of an IR which the lone step accepts without a record
pub record IsAcceptedIr (s : Settings) (moment : ℕ) (h : Header) : Type 0 where
  pub dynamic : Bool
  pub kind : h.kind ≡ Ir dynamic
  pub reply : Response
  pub after : Option Record
  pub step : LoneStep None s moment h reply after
  pub accepted : is_refusal reply.outcome ≡ false

-- A marked arrival is such an IR, for a CID without a record.
abbrev pub MarkedIsAcceptedIr : Type 0
MarkedIsAcceptedIr =
    (s : Settings) (moment : ℕ) (h : Header) (before after : Option Record) (reply : Response) →
    MarkedStep s moment h true before reply after → (before ≡ None) × IsAcceptedIr s moment h

-- The lone run is the marked run of events without a mark.
abbrev pub LoneRunIsUnmarked : Type 0
LoneRunIsUnmarked =
    (s : Settings) (before after : Option Record) (events : List LoneEvent) (replies : List Response) →
    LoneRun s before events replies after
    ↔ MarkedRun s before (map (λ (event : LoneEvent). (event, false)) events) replies after

-- Every run of events, whatever they are, isolates each CID of each link.
abbrev pub IsolatedEvents : Type 0
IsolatedEvents = (r : EventRun) → RunsEvents r.before r.turns r.after → IsIsolatedRun r

-- the arrival time has 64 bits, and the packet consists of octets
abbrev pub IsFit : Event → Type 0
IsFit (Arrive link moment octets) = (moment < 2 ^ 64) × All IsOctet octets
IsFit (Reset link) = Unit {0}

-- Let two runs of events agree on a CID of a link: in its own events without a mark, its settings and its
-- record. Then both answer it alike, lack of memory aside, and leave it equal records.
abbrev pub SameReplies : Type 0
SameReplies = (a b : EventRun) (l c : ℕ) (agree : Agree a.before b.before l c) →
    AllByRecursion (λ (turn : Event × Option Report). IsFit turn.0) a.turns →
    RunsEvents a.before a.turns a.after → RunsEvents b.before b.turns b.after →
    unmarked (own_events agree.here l c a.turns) ≡ unmarked (own_events agree.there l c b.turns) →
    (filter is_rich (own_replies l c a.turns) ≡ filter is_rich (own_replies l c b.turns))
    × (record_at a.after l c ≡ record_at b.after l c)

-- Isolation over events: they are calls, and the run of a pair's own calls is that of its own events.
use Rattle.std.proofs.Common.{◌≡◌, ◌≢◌, ℕ, List, [], ◌∷◌, ◌++◌, map, filter, Bool, true, false, ◌==◌, Option, Some, None, Result, Ok, Err, ◌⊎◌, inl, inr, ⊎_elim, eq-eqb, eqb-true, ne_eqb, refl, sym, ◌∙◌, ap, subst, if◌then◌else◌}
use Rattle.std.specs.Bool.{MatchBool}
use Rattle.std.specs.List.{AllByRecursion}
use Rattle.std.proofs.lemmas.Bool.{cases_eq}
use Rattle.rohc_frame.specs.Header.{Header}
use Rattle.rohc_frame.specs.Reading.{Reading}
use Rattle.rohc_frame.specs.Parts.{parts_of}
use Rattle.rohc_frame.specs.declared.refusal.FrameRefusal.{FrameRefusal}
use Rattle.rohc_context.specs.declared.refusal.Refusal.TheVariants as refusals
use Rattle.rohc_context.specs.declared.reply.Outcome.TheVariants as outcomes
use Rattle.rohc_context.specs.declared.settings.Settings.{Settings}
use Rattle.rohc_context.specs.Record.{Record}
use Rattle.rohc_context.specs.Response.{Response, refused}
use Rattle.rohc_context.proofs.StepLaws.{never_poor}
use Rattle.rohc_concentrator.specs.declared.concentrator.Concentrator.{Concentrator}
use Rattle.rohc_concentrator.specs.declared.setting.LinkSetting.{LinkSetting}
use Rattle.rohc_concentrator.specs.Setting.{settings_of}
use Rattle.rohc_concentrator.specs.Tables.{setting_at, record_at, settings_in_order, KeepsSettings}
use Rattle.rohc_concentrator.specs.Report.{Report, Arrived, IsCut, IsRead, IsAnswered, is_no_memory, wants_memory}
use Rattle.rohc_concentrator.specs.Bears.{header_in, header_on}
use Rattle.rohc_concentrator.specs.Events.{Event, Arrive, Reset, RunsEvent, RunsEvents}
use Rattle.rohc_concentrator.specs.LoneRun.{LoneEvent, Arrival, Forget, LoneRun, MarkedRun, unmarked, arrival_of}
use Rattle.rohc_concentrator.specs.Isolation.{is_marked, own_events, reply_of, own_reply, own_replies, is_rich}
use Rattle.rohc_concentrator.specs.Laws.{IsolatedEvents}
use Rattle.rohc_concentrator.specs.Seen.{Seen, seen_at, held_of, View}
use Rattle.rohc_concentrator.specs.Calls.{CallAnswer, Reported, Done, NoSuchLink, is_poor, LoneCall, LoneArrival, LoneForget, arrival_for, LoneAnswer, Replied, Told, lone_answer}
use Rattle.rohc_concentrator.specs.Owns.{Makes, WouldAdd}
use Rattle.rohc_concentrator.specs.OwnCalls.{Own, own_more, own_calls, MarkedCalls}
use Rattle.rohc_concentrator.proofs.ArrivedLemmas.{arrived, arrival_settings, reset_settings}
use Rattle.rohc_concentrator.proofs.EventCalls.{turn_of, events_run}
use Rattle.rohc_concentrator.proofs.OutcomeLemmas.{is_no_memory-not}
use Rattle.rohc_concentrator.proofs.OwnLemmas.{isolated_calls}
use Rattle.rohc_concentrator.proofs.ViewLemmas.{view_some, held_at}

-- own calls as events, and their replies

abbrev pub event_of : LoneCall → LoneEvent
event_of (LoneArrival m h) = Arrival m h
event_of e = Forget

abbrev pub events_in : List Own → List (LoneEvent × Bool)
events_in own = map (λ (o : Own). (event_of o.0, is_poor o.1)) own

abbrev pub replies_to : LoneAnswer → List Response
replies_to (Replied response) = response ∷ []
replies_to (Told a) = []

abbrev pub replies_in : List Own → List Response
replies_in [] = []
replies_in (o ∷ own) = replies_to (lone_answer o.1) ++ replies_in own

abbrev pub IsEventCall : LoneCall → Type 0
IsEventCall (LoneArrival m h) = Unit {0}
IsEventCall LoneForget = Unit {0}
IsEventCall e = ⊥

-- what a turn is to a pair: nothing, or an event and perhaps a reply
abbrev IsOwn : Option LoneCall → CallAnswer → List (LoneEvent × Bool) → List Response → Type 0
IsOwn None a events replies = (events ≡ []) × (replies ≡ [])
IsOwn (Some e) a events replies = IsEventCall e × (events ≡ (event_of e, is_poor a) ∷ []) × (replies ≡ replies_to (lone_answer a))

-- these events and replies are those of the own calls
pub record AreOwn (own : List Own) (events : List (LoneEvent × Bool)) (replies : List Response) : Type 0 where
  pub events_are : events ≡ events_in own
  pub replies_are : replies ≡ replies_in own
  pub calls : AllByRecursion (λ (o : Own). IsEventCall o.0) own

module _ (own : List Own) (events : List (LoneEvent × Bool)) (replies : List Response) (are : AreOwn own events replies) where
  more_own : (o : Option LoneCall) (a : CallAnswer) (es : List (LoneEvent × Bool)) (rs : List Response) → IsOwn o a es rs → AreOwn (own_more o a own) (es ++ events) (rs ++ replies)
  more_own None a es rs is = rw (is.0, is.1) are
  more_own (Some e) a es rs is = rw (is.1, is.2) (record {
    events_are = ap (λ xs. (event_of e, is_poor a) ∷ xs) are.events_are;
    replies_are = ap (λ xs. replies_to (lone_answer a) ++ xs) are.replies_are;
    calls = (is.0, are.calls);
  })

  own_where : (b mark : Bool) (o : Option LoneCall) (a : CallAnswer) (xs : List LoneEvent) (rs : Bool → List Response) → rs false ≡ [] → (b ≡ true → IsOwn o a (map (λ (e : LoneEvent). (e, mark)) xs) (rs true))
      → AreOwn (if b then own_more o a own else own) (map (λ (e : LoneEvent). (e, mark)) (if b then xs else []) ++ events) (rs b ++ replies)
  own_where true mark o a xs rs none is = more_own o a (map (λ (e : LoneEvent). (e, mark)) xs) (rs true) (is refl)
  own_where false mark o a xs rs none is = rw none are

-- a report on a packet with this header, or without one
abbrev IsOn : ℕ → Report → Option Header → Type 0
IsOn c report None = reply_of c report ≡ []
IsOn c report (Some h) = (response : Response) × (relayed : List (List ℕ)) × (report ≡ Arrived h.cid response relayed)

arrival_own : (c m : ℕ) (report : Report) (header : Option Header) → IsOn c report header → IsOwn (arrival_for c m header) (Reported report) (map (λ (e : LoneEvent). (e, wants_memory report)) (arrival_of c m header)) (reply_of c report)
arrival_own c m report None is = (refl, is)
arrival_own c m report (Some h) (response, relayed, is) = by (h.cid == c) refl
  where
    by : (b : Bool) → (h.cid == c) ≡ b → IsOwn (if b then Some (LoneArrival m h) else None) (Reported report) (map (λ (e : LoneEvent). (e, wants_memory report)) (if b then Arrival m h ∷ [] else [])) (reply_of c report)
    by true here = (tt, refl, rw (is, here) refl)
    by false other = (refl, rw (is, other) refl)

read_on : (c m : ℕ) (report : Report) (held next : ℕ → Option Record) (s : LinkSetting) (parts : Result Reading FrameRefusal) → IsRead s m parts held report next → IsOn c report (header_in parts)
read_on c m report held next s (Err refusal) a = ap (reply_of c) a
read_on c m report held next s (Ok reading) a = by reading.header a
  where
    by : (header : Option Header) → IsCut s m reading.elements header held report next → IsOn c report header
    by None a = ap (reply_of c) a
    by (Some h) a = (a.0, reading.elements, a.1)

-- the settings stay
event_keeps : (old new : Concentrator) (event : Event) (report : Option Report) → RunsEvent old event report new → KeepsSettings old new
event_keeps old new (Arrive k m octets) None turn = absurd turn
event_keeps old new (Arrive k m octets) (Some report) turn = arrival_settings old new k m octets report turn
event_keeps old new (Reset k) None turn = reset_settings old new k Done refl turn
event_keeps old new (Reset k) (Some report) turn = reset_settings old new k NoSuchLink refl turn.0

events_keep : (old new : Concentrator) (turns : List (Event × Option Report)) → RunsEvents old turns new → KeepsSettings old new
events_keep old new [] run = record { each = λ l. ap (λ k. setting_at k l) run; in_order = ap settings_in_order run }
events_keep old new ((event, report) ∷ turns) run =
    let first = event_keeps old run.0 event report run.1 in
    let rest = events_keep run.0 new turns run.2 in
    record { each = λ l. rest.each l ∙ first.each l; in_order = rest.in_order ∙ first.in_order }

-- the events and replies of a pair are those of its own calls
pub own_same : (l c : ℕ) (s : LinkSetting) (old new : Concentrator) (turns : List (Event × Option Report)) → RunsEvents old turns new → setting_at old l ≡ Some s
    → AreOwn (own_calls l c (Some s) (map turn_of turns)) (own_events s l c turns) (own_replies l c turns)
own_same l c s old new [] run is = record { events_are = refl; replies_are = refl; calls = tt }
own_same l c s old new ((Arrive k m octets, None) ∷ turns) run is = absurd run.1
own_same l c s old new ((Arrive k m octets, Some report) ∷ turns) (mid, turn, rest) is =
    own_where (own_calls l c (Some s) (map turn_of turns)) (own_events s l c turns) (own_replies l c turns) (own_same l c s mid new turns rest ((arrival_settings old mid k m octets report turn).each l ∙ is))
    (k == l) (wants_memory report) (arrival_for c m (header_on s octets)) (Reported report) (arrival_of c m (header_on s octets)) (λ b. if b then reply_of c report else []) refl
    (λ here. arrival_own c m report (header_on s octets) (read_on c m report (record_at old l) (record_at mid l) s (parts_of s.settings.size s.settings.max_cid octets)
    (subst (λ z. IsAnswered z (record_at old l) m octets report (record_at mid l)) is
    (subst (λ n. IsAnswered (setting_at old n) (record_at old n) m octets report (record_at mid n)) (eqb-true k l here) (arrived old mid k m octets report turn)))))
own_same l c s old new ((Reset k, None) ∷ turns) (mid, turn, rest) is =
    own_where (own_calls l c (Some s) (map turn_of turns)) (own_events s l c turns) (own_replies l c turns) (own_same l c s mid new turns rest ((event_keeps old mid (Reset k) None turn).each l ∙ is))
    (k == l) false (Some LoneForget) Done (Forget ∷ []) (λ b. []) refl (λ here. (tt, refl, refl))
own_same l c s old new ((Reset k, Some report) ∷ turns) (mid, turn, rest) is =
    own_where (own_calls l c (Some s) (map turn_of turns)) (own_events s l c turns) (own_replies l c turns) (own_same l c s mid new turns rest ((event_keeps old mid (Reset k) (Some report) turn).each l ∙ is))
    (k == l) (is_marked (Some report)) (Some LoneForget) NoSuchLink (Forget ∷ []) (λ b. []) refl (λ here. (tt, rw turn.1 refl, refl))

-- a marked run of calls that are arrivals and resets is a marked run of events
module _ (c : ℕ) (after : Option Seen) where
  abbrev Ends : Seen → List (LoneEvent × Bool) → List Response → Type 0
  Ends v events replies = (held : Option Record) × (after ≡ Some (record v { held = held })) × MarkedRun v.settings v.held events replies held

  marked_events : (v : Seen) (own : List Own) → AllByRecursion (λ (o : Own). IsEventCall o.0) own → MarkedCalls c (Some v) own after → Ends v (events_in own) (replies_in own)
  marked_events v [] all run = (v.held, run, refl)
  marked_events v ((LoneArrival m h, a) ∷ own) all (mid, step, rest) = by (is_poor a) step (λ w is. marked_events w own all.1 (subst (λ z. MarkedCalls c z own after) is rest))
    where
      by : (poor : Bool) → MatchBool poor ((mid ≡ Some v) × WouldAdd c (LoneArrival m h) (Some v) a) (Makes c (LoneArrival m h) (Some v) (lone_answer a) mid) → ((w : Seen) → mid ≡ Some w → Ends w (events_in own) (replies_in own))
          → Ends v ((Arrival m h, poor) ∷ events_in own) (replies_to (lone_answer a) ++ replies_in own)
      by true (stays, (response, poor, e)) later = let (held, ends, run) = later v stays in rw e (held, ends, (v.held, poor, run))
      by false (response, next, step, e, is) later = let (held, ends, run) = later (record v { held = next }) is in rw e (held, ends, (next, step, run))
  marked_events v ((LoneForget, a) ∷ own) all (mid, step, rest) = by (is_poor a) step (λ w is. marked_events w own all.1 (subst (λ z. MarkedCalls c z own after) is rest))
    where
      by : (poor : Bool) → MatchBool poor ((mid ≡ Some v) × WouldAdd c LoneForget (Some v) a) (Makes c LoneForget (Some v) (lone_answer a) mid) → ((w : Seen) → mid ≡ Some w → Ends w (events_in own) (replies_in own))
          → Ends v ((Forget, poor) ∷ events_in own) (replies_to (lone_answer a) ++ replies_in own)
      by true stays later = absurd stays.1
      by false makes later = let (held, ends, run) = later (record v { held = None }) makes.1 in rw makes.0 (held, ends, run)
  marked_events v ((e, a) ∷ own) all run = absurd all.0

-- Without the marked events and their replies a marked run is a lone run.
pub runs_alone : (s : Settings) (before after : Option Record) (marked : List (LoneEvent × Bool)) (replies : List Response) → MarkedRun s before marked replies after → LoneRun s before (unmarked marked) (filter is_rich replies) after
runs_alone s before after [] [] run = run
runs_alone s before after [] (reply ∷ replies) run = absurd run
runs_alone s before after ((Forget, true) ∷ marked) replies run = absurd run
runs_alone s before after ((Forget, false) ∷ marked) replies run = runs_alone s None after marked replies run
runs_alone s before after ((Arrival m h, mark) ∷ marked) [] run = absurd run
runs_alone s before after ((Arrival m h, false) ∷ marked) (reply ∷ replies) run =
    let rich : is_no_memory reply.outcome ≡ false = is_no_memory-not reply.outcome (never_poor before s m h reply run.0 run.1) in
    rw rich (run.0, run.1, runs_alone s run.0 after marked replies run.2)
runs_alone s before after ((Arrival m h, true) ∷ marked) (reply ∷ replies) run =
    let poor : is_no_memory reply.outcome ≡ true = ap (λ (r : Response). is_no_memory r.outcome) run.1.2 in
    let same : run.0 ≡ before = run.1.1 ∙ sym run.1.0 in
    rw poor (subst (λ r. LoneRun s r (unmarked marked) (filter is_rich replies) after) same (runs_alone s run.0 after marked replies run.2))

-- In a marked run a reply `NoMemory` has no packet and no feedback.
abbrev pub IsRichOrPoor : Response → Type 0
IsRichOrPoor reply = (reply.outcome ≢ outcomes.Refused refusals.NoMemory) ⊎ (reply ≡ refused refusals.NoMemory)

pub each_rich_or_poor : (s : Settings) (before after : Option Record) (marked : List (LoneEvent × Bool)) (replies : List Response) → MarkedRun s before marked replies after → AllByRecursion IsRichOrPoor replies
each_rich_or_poor s before after [] [] run = tt
each_rich_or_poor s before after [] (reply ∷ replies) run = absurd run
each_rich_or_poor s before after ((Forget, true) ∷ marked) replies run = absurd run
each_rich_or_poor s before after ((Forget, false) ∷ marked) replies run = each_rich_or_poor s None after marked replies run
each_rich_or_poor s before after ((Arrival m h, mark) ∷ marked) [] run = absurd run
each_rich_or_poor s before after ((Arrival m h, false) ∷ marked) (reply ∷ replies) run = (inl (never_poor before s m h reply run.0 run.1), each_rich_or_poor s run.0 after marked replies run.2)
each_rich_or_poor s before after ((Arrival m h, true) ∷ marked) (reply ∷ replies) run = (inr run.1.2, each_rich_or_poor s run.0 after marked replies run.2)

-- No reply is of a link that isn't there.
absent_event : (l c : ℕ) (old new : Concentrator) (event : Event) (report : Option Report) → setting_at old l ≡ None → RunsEvent old event report new → own_reply l c event report ≡ []
absent_event l c old new (Arrive k m octets) None absent turn = refl
absent_event l c old new (Arrive k m octets) (Some report) absent turn = ⊎_elim
    (λ e. let yes : (k == l) ≡ true = eq-eqb k l e in
    let here : IsAnswered (setting_at old l) (record_at old k) m octets report (record_at new k) = subst (λ x. IsAnswered (setting_at old x) (record_at old k) m octets report (record_at new k)) e (arrived old new k m octets report turn) in
    rw yes (ap (reply_of c) (subst (λ x. IsAnswered x (record_at old k) m octets report (record_at new k)) absent here)))
    (λ apart. let no : (k == l) ≡ false = ne_eqb k l apart in rw no refl)
    (cases_eq k l)
absent_event l c old new (Reset k) report absent turn = refl

absent_events : (l c : ℕ) (old new : Concentrator) (turns : List (Event × Option Report)) → setting_at old l ≡ None → RunsEvents old turns new → own_replies l c turns ≡ []
absent_events l c old new [] absent run = refl
absent_events l c old new ((event, report) ∷ turns) absent run =
    rw (absent_event l c old run.0 event report absent run.1) (absent_events l c run.0 new turns ((event_keeps old run.0 event report run.1).each l ∙ absent) run.2)

-- what a pair sees
pub seen_pair : (k : Concentrator) (l c : ℕ) (s : LinkSetting) → setting_at k l ≡ Some s → seen_at k l c ≡ Some (record { settings = settings_of s c; held = record_at k l c })
seen_pair k l c s is = ap (λ (v : View). v.seen c) (view_some k l s is)

answered_events : (old new : Concentrator) (turns : List (Event × Option Report)) (l c : ℕ) (s : LinkSetting) → setting_at old l ≡ Some s → RunsEvents old turns new
    → MarkedRun (settings_of s c) (record_at old l c) (own_events s l c turns) (own_replies l c turns) (record_at new l c)
answered_events old new turns l c s is run =
    let own = own_calls l c (Some s) (map turn_of turns) in
    let same = own_same l c s old new turns run is in
    let marked : MarkedCalls c (seen_at old l c) own (seen_at new l c) =
    subst (λ z. MarkedCalls c (seen_at old l c) (own_calls l c z (map turn_of turns)) (seen_at new l c)) is (isolated_calls old new (map turn_of turns) (events_run old new turns run) l c).marked in
    let (held, ends, events) = marked_events c (seen_at new l c) (record { settings = settings_of s c; held = record_at old l c }) own same.calls
    (subst (λ z. MarkedCalls c z own (seen_at new l c)) (seen_pair old l c s is) marked) in
    rw (same.events_are, same.replies_are, sym (held_at new l c) ∙ ap held_of ends) events

pub isolated_events : IsolatedEvents
isolated_events r run = record {
  pairs = λ p set.
      let answered = answered_events r.before r.after r.turns p.link p.cid p.setting set run in
      record {
        answered = answered;
        alone = runs_alone (settings_of p.setting p.cid) (record_at r.before p.link p.cid) (record_at r.after p.link p.cid) (own_events p.setting p.link p.cid r.turns) (own_replies p.link p.cid r.turns) answered;
      };
  settings = events_keep r.before r.after r.turns run;
  absent = λ l c none. absent_events l c r.before r.after r.turns none run;
}

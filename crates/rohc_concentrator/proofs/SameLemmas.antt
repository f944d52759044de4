-- Two runs of events that agree on a pair answer it the same.
use Rattle.std.proofs.Common.{◌≡◌, ℕ, ◌<◌, ◌^◌, List, [], ◌∷◌, ◌++◌, map, filter, Bool, true, false, not, if◌then◌else◌, ◌==◌, Option, Some, None, Result, Ok, Err, refl, sym, ◌∙◌, ap, subst}
use Rattle.std.specs.List.{AllByRecursion}
use Rattle.rohc_frame.specs.Header.{Header}
use Rattle.rohc_frame.specs.Parts.{parts_of}
use Rattle.rohc_frame.specs.Reading.{Reading}
use Rattle.rohc_frame.specs.declared.refusal.FrameRefusal.{FrameRefusal}
use Rattle.rohc_context.specs.Good.{IsGoodHeader}
use Rattle.rohc_context.specs.Response.{Response}
use Rattle.rohc_context.specs.declared.settings.Settings.{Settings}
use Rattle.rohc_concentrator.specs.declared.setting.LinkSetting.{LinkSetting}
use Rattle.rohc_concentrator.specs.Setting.{settings_of}
use Rattle.rohc_concentrator.specs.Report.{Arrived, is_no_memory}
use Rattle.rohc_concentrator.specs.Events.{Event, Arrive, Reset}
use Rattle.rohc_concentrator.specs.LoneRun.{LoneEvent, Arrival, Forget, arrival_of, unmarked}
use Rattle.rohc_concentrator.specs.Bears.{header_in}
use Rattle.rohc_concentrator.specs.Isolation.{own_event, is_rich}
use Rattle.rohc_concentrator.specs.Laws.{IsFit, SameReplies}
use Rattle.rohc_concentrator.specs.Seen.{seen_at, held_of}
use Rattle.rohc_concentrator.specs.Calls.{Reported, is_poor, LoneCall, LoneArrival, LoneForget, LoneAnswer}
use Rattle.rohc_concentrator.specs.OwnCalls.{Own, own_calls, rich, calls_of, answers_of, calls_to}
use Rattle.rohc_concentrator.proofs.GoodLemmas.{good_header}
use Rattle.rohc_concentrator.proofs.WorldLemmas.{IsGoodEvent}
use Rattle.rohc_concentrator.proofs.EventCalls.{turn_of, events_run, fit_turns}
use Rattle.rohc_concentrator.proofs.EventLemmas.{event_of, events_in, replies_to, replies_in, IsEventCall, own_same, seen_pair}
use Rattle.rohc_concentrator.proofs.ViewLemmas.{held_at}
use Rattle.rohc_concentrator.proofs.OwnLemmas.{same_answers}

abbrev with_mark : Bool → List LoneEvent → List (LoneEvent × Bool)
with_mark mark events = map (λ event. (event, mark)) events

-- good events, one list behind the other
abbrev pub AreGoodEvents : Settings → List LoneEvent → Type 0
AreGoodEvents s events = AllByRecursion (IsGoodEvent s) events

good_append : (s : Settings) (xs ys : List LoneEvent) → AreGoodEvents s xs → AreGoodEvents s ys → AreGoodEvents s (xs ++ ys)
good_append s [] ys p q = q
good_append s (x ∷ xs) ys p q = (p.0, good_append s xs ys p.1 q)

good_where : (s : Settings) (b : Bool) (xs ys : List LoneEvent) → AreGoodEvents s xs → AreGoodEvents s ys → AreGoodEvents s (if b then xs else ys)
good_where s true xs ys p q = p
good_where s false xs ys p q = q

pub unmarked_with : (mark : Bool) (events : List LoneEvent) (more : List (LoneEvent × Bool)) → unmarked (with_mark mark events ++ more) ≡ (if mark then [] else events) ++ unmarked more
unmarked_with true [] more = refl
unmarked_with false [] more = refl
unmarked_with true (event ∷ events) more = unmarked_with true events more
unmarked_with false (event ∷ events) more = ap (λ es. event ∷ es) (unmarked_with false events more)

module _ (s : LinkSetting) (l c : ℕ) where
  good_arrival_of : (m : ℕ) (header : Option Header) → m < 2 ^ 64 → ((h : Header) → header ≡ Some h → IsGoodHeader (settings_of s c) h) → AreGoodEvents (settings_of s c) (arrival_of c m header)
  good_arrival_of m None fits good = tt
  good_arrival_of m (Some h) fits good = good_where (settings_of s c) (h.cid == c) (Arrival m h ∷ []) [] ((fits, good h refl), tt) tt

  good_arrival_in : (m : ℕ) (parts : Result Reading FrameRefusal) → m < 2 ^ 64 → ((r : Reading) (h : Header) → parts ≡ Ok r → r.header ≡ Some h → IsGoodHeader (settings_of s c) h) → AreGoodEvents (settings_of s c) (arrival_of c m (header_in parts))
  good_arrival_in m (Ok r) fits good = good_arrival_of m r.header fits (λ h. good r h refl)
  good_arrival_in m (Err refusal) fits good = tt

  good_event : (e : Event) → IsFit e → AreGoodEvents (settings_of s c) (own_event s l c e)
  good_event (Arrive k m octets) fits =
      good_where (settings_of s c) (k == l) (arrival_of c m (header_in (parts_of s.settings.size s.settings.max_cid octets))) []
      (good_arrival_in m (parts_of s.settings.size s.settings.max_cid octets) fits.0 (λ r h e f. good_header s c octets r h e f fits.1)) tt
  good_event (Reset k) fits = good_where (settings_of s c) (k == l) (Forget ∷ []) [] (tt, tt) tt

  -- an event's own part and more of them, without the marked ones
  pub good_more : (e : Event) (mark : Bool) (more : List (LoneEvent × Bool)) → IsFit e → AreGoodEvents (settings_of s c) (unmarked more) → AreGoodEvents (settings_of s c) (unmarked (with_mark mark (own_event s l c e) ++ more))
  good_more e mark more fit good =
      subst (AreGoodEvents (settings_of s c)) (sym (unmarked_with mark (own_event s l c e) more))
      (good_append (settings_of s c) (if mark then [] else own_event s l c e) (unmarked more) (good_where (settings_of s c) mark [] (own_event s l c e) tt (good_event e fit)) good)

-- own calls, from their events
abbrev call_of : LoneEvent → LoneCall
call_of (Arrival m h) = LoneArrival m h
call_of Forget = LoneForget

call_back : (e : LoneCall) → IsEventCall e → call_of (event_of e) ≡ e
call_back (LoneArrival m h) is = refl
call_back LoneForget is = refl
call_back e is = absurd is

calls_back : (own : List Own) → AllByRecursion (λ (o : Own). IsEventCall o.0) own → map call_of (unmarked (events_in own)) ≡ calls_of (rich own)
calls_back [] all = refl
calls_back ((e, a) ∷ own) all = by (is_poor a) (calls_back own all.1)
  where
    by : (poor : Bool) → map call_of (unmarked (events_in own)) ≡ calls_of (rich own)
        → map call_of (if poor then unmarked (events_in own) else event_of e ∷ unmarked (events_in own)) ≡ calls_of (if not poor then (e, a) ∷ rich own else rich own)
    by true later = later
    by false later = (λ i. call_back e all.0 i ∷ later i)

abbrev replies_of : List LoneAnswer → List Response
replies_of [] = []
replies_of (a ∷ answers) = replies_to a ++ replies_of answers

replies_rich : (own : List Own) → filter is_rich (replies_in own) ≡ replies_of (answers_of (rich own))
replies_rich [] = refl
replies_rich ((e, Reported (Arrived c response relayed)) ∷ own) = by (is_no_memory response.outcome) (replies_rich own)
  where
    by : (poor : Bool) → filter is_rich (replies_in own) ≡ replies_of (answers_of (rich own))
        → (if not poor then response ∷ filter is_rich (replies_in own) else filter is_rich (replies_in own)) ≡ replies_of (answers_of (if not poor then (e, Reported (Arrived c response relayed)) ∷ rich own else rich own))
    by true later = later
    by false later = ap (λ rs. response ∷ rs) later
replies_rich ((e, a) ∷ own) = by (is_poor a) (replies_rich own)
  where
    by : (poor : Bool) → filter is_rich (replies_in own) ≡ replies_of (answers_of (rich own)) → filter is_rich (replies_in own) ≡ replies_of (answers_of (if not poor then (e, a) ∷ rich own else rich own))
    by true later = later
    by false later = later

pub same_replies : SameReplies
same_replies a b l c agree fit first second same =
    let xs = map turn_of a.turns in
    let ys = map turn_of b.turns in
    let here = own_same l c agree.here a.before a.after a.turns first agree.set_here in
    let there = own_same l c agree.there b.before b.after b.turns second agree.set_there in
    let calls : calls_to l c a.before xs ≡ calls_to l c b.before ys =
    ap (λ z. calls_of (rich (own_calls l c z xs))) agree.set_here ∙ sym (calls_back (own_calls l c (Some agree.here) xs) here.calls)
    ∙ ap (map call_of) (sym (ap unmarked here.events_are) ∙ same ∙ ap unmarked there.events_are)
    ∙ calls_back (own_calls l c (Some agree.there) ys) there.calls ∙ sym (ap (λ z. calls_of (rich (own_calls l c z ys))) agree.set_there) in
    let seen : seen_at a.before l c ≡ seen_at b.before l c =
    seen_pair a.before l c agree.here agree.set_here ∙ (λ i. Some (record { settings = agree.settings i; held = agree.records i })) ∙ sym (seen_pair b.before l c agree.there agree.set_there) in
    let one = same_answers a.before b.before a.after b.after xs ys l c seen (fit_turns a.turns fit) (events_run a.before a.after a.turns first) (events_run b.before b.after b.turns second) calls in (
      ap (filter is_rich) here.replies_are ∙ replies_rich (own_calls l c (Some agree.here) xs) ∙ sym (ap (λ z. replies_of (answers_of (rich (own_calls l c z xs)))) agree.set_here)
          ∙ ap replies_of one.0
          ∙ ap (λ z. replies_of (answers_of (rich (own_calls l c z ys)))) agree.set_there ∙ sym (replies_rich (own_calls l c (Some agree.there) ys)) ∙ sym (ap (filter is_rich) there.replies_are),
      sym (held_at a.after l c) ∙ ap held_of one.1 ∙ held_at b.after l c,
    )

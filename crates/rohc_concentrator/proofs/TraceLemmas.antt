-- A call that is refused leaves no trace.
use Rattle.std.proofs.Common.{◌≡◌, ℕ, Bool, true, false, nat_le, ◌==◌, Option, Some, None, refl, sym, ap, ◌∙◌, subst}
use Rattle.std.specs.Bool.{MatchBool}
use Rattle.rohc_context.specs.Record.{Record}
use Rattle.rohc_context.specs.Step.{LoneStep}
use Rattle.rohc_context.proofs.StepLaws.{leaves_none}
use Rattle.rohc_concentrator.specs.Report.{Arrived, is_refusal}
use Rattle.rohc_concentrator.specs.Seen.{Seen, held_of, View, view_at}
use Rattle.rohc_concentrator.specs.Calls.{Call, Arrive, CallAnswer, Reported, Done, is_poor, LoneCall, LoneArrival, LoneForget, LoneExpiry, LoneAdd, LoneRemove, LoneChange, LonePut, lone_call, LoneAnswer, Replied, Told, lone_answer}
use Rattle.rohc_concentrator.specs.Owns.{GivesPut, Makes, WouldAdd, Steps}
use Rattle.rohc_concentrator.specs.RunsCall.{LinkStep}
use Rattle.rohc_concentrator.specs.CallLaws.{is_refused_call, NoTraceOfCalls}
use Rattle.rohc_concentrator.specs.Laws.{NoTrace}
use Rattle.rohc_concentrator.proofs.LinkCallLemmas.{is_done, undone_setting}
use Rattle.rohc_concentrator.proofs.ViewLemmas.{held_at}
use Rattle.rohc_concentrator.proofs.WorldLemmas.{which_refusal}

abbrev is_refused_lone : LoneAnswer → Bool
is_refused_lone (Replied response) = is_refusal response.outcome
is_refused_lone (Told a) = is_refused_call a

lone_refused : (a : CallAnswer) → is_refused_lone (lone_answer a) ≡ is_refused_call a
lone_refused (Reported (Arrived c response relayed)) = refl
lone_refused a = refl

refused_undone : (a : CallAnswer) → is_refused_call a ≡ true → is_done a ≡ false
refused_undone Done refused = absurd (let f : false ≡ true = refused in cc)
refused_undone a refused = refl

-- what is done isn't refused
not_done : {X : Type 0} (y : LoneAnswer) → is_refused_lone y ≡ true → y ≡ Told Done → X
not_done y refused done = absurd (let f : false ≡ true = sym (ap is_refused_lone done) ∙ refused in cc)

put_none : (within : Bool) (held : Option Record) (v : Seen) (r : Record) (y : LoneAnswer) (after : Option Seen) → is_refused_lone y ≡ true → v.held ≡ None → GivesPut within held v r y after → held_of after ≡ None
put_none false held v r y after refused none p = ap held_of p.1 ∙ none
put_none true (Some old) v r y after refused none p = ap held_of p.1 ∙ none
put_none true None v r y after refused none p = not_done y refused p.0

-- a refusal makes no record
makes_none : (c : ℕ) (e : LoneCall) (before : Option Seen) (y : LoneAnswer) (after : Option Seen) → is_refused_lone y ≡ true → held_of before ≡ None → Makes c e before y after → held_of after ≡ None
makes_none c (LoneArrival m h) None y after refused none p = absurd p
makes_none c (LoneArrival m h) (Some v) y after refused none (response, held, step, e, f) =
    let refusal = which_refusal response.outcome (sym (ap is_refused_lone e) ∙ refused) in
    ap held_of f ∙ leaves_none v.settings m h response held refusal.0 (subst (λ b. LoneStep b v.settings m h response held) none step) refusal.1
makes_none c LoneForget None y after refused none p = ap held_of p.1
makes_none c LoneForget (Some v) y after refused none p = ap held_of p.1
makes_none c (LoneExpiry m) None y after refused none p = ap held_of p.1
makes_none c (LoneExpiry m) (Some v) y after refused none p = not_done y refused p.0
makes_none c (LoneAdd s) None y after refused none p = ap held_of p.1
makes_none c (LoneAdd s) (Some v) y after refused none p = ap held_of p.1 ∙ none
makes_none c LoneRemove None y after refused none p = ap held_of p.1
makes_none c LoneRemove (Some v) y after refused none p = ap held_of p.1
makes_none c (LoneChange s) None y after refused none p = ap held_of p.1
makes_none c (LoneChange s) (Some v) y after refused none p = not_done y refused p.0
makes_none c (LonePut r) None y after refused none p = ap held_of p.1
makes_none c (LonePut r) (Some v) y after refused none p = put_none (nat_le c v.settings.max_cid) v.held v r y after refused none p

steps_none : (c : ℕ) (o : Option LoneCall) (before : Option Seen) (a : CallAnswer) (after : Option Seen) → is_refused_call a ≡ true → held_of before ≡ None → Steps c o before a after → held_of after ≡ None
steps_none c None before a after refused none step = ap held_of step ∙ none
steps_none c (Some e) before a after refused none step = by (is_poor a) step
  where
    by : (poor : Bool) → MatchBool poor ((after ≡ before) × WouldAdd c e before a) (Makes c e before (lone_answer a) after) → held_of after ≡ None
    by true stays = ap held_of stays.0 ∙ none
    by false makes = makes_none c e before (lone_answer a) after (lone_refused a ∙ refused) none makes

link_none : (here : Bool) (v w : View) (e : Call) (a : CallAnswer) → MatchBool here (LinkStep v e a w) (w ≡ v) → is_refused_call a ≡ true
    → (w.setting ≡ v.setting) × ((c : ℕ) → held_of (v.seen c) ≡ None → held_of (w.seen c) ≡ None)
link_none false v w e a same refused = (ap (λ (x : View). x.setting) same, λ c none. ap (λ (x : View). held_of (x.seen c)) same ∙ none)
link_none true v w e a step refused =
    (step.setting ∙ undone_setting e a v.setting (refused_undone a refused), λ c none. steps_none c (lone_call c e a v.setting) (v.seen c) a (w.seen c) refused none (step.each c))

pub no_trace_of_calls : NoTraceOfCalls
no_trace_of_calls old new link e a event refused = (
  λ l. (link_none (link == l) (view_at old l) (view_at new l) e a (event.each l) refused).0,
  λ l c none. sym (held_at new l c) ∙ (link_none (link == l) (view_at old l) (view_at new l) e a (event.each l) refused).1 c (held_at old l c ∙ none),
)

-- an arrival is one
pub no_trace : NoTrace
no_trace old new l m octets report a refuses c none = (no_trace_of_calls old new l (Arrive m octets) (Reported report) a refuses).1 l c none

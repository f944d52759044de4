-- What a call makes of settings and records: an arrival, a reset.
use Rattle.std.proofs.Common.{◌≡◌, ◌≢◌, ℕ, List, Bool, true, false, ◌==◌, ◌⊎◌, inl, inr, Option, Some, None, Result, Ok, Err, refl, sym, ap, ◌∙◌, subst, eq-eqb, ne_eqb, eqb-true}
use Rattle.std.specs.Bool.{MatchBool}
use Rattle.rohc_frame.specs.Header.{Header}
use Rattle.rohc_frame.specs.Reading.{Reading}
use Rattle.rohc_frame.specs.Parts.{parts_of}
use Rattle.rohc_frame.specs.declared.refusal.FrameRefusal.{FrameRefusal}
use Rattle.rohc_context.specs.declared.refusal.Refusal.TheVariants as refusals
use Rattle.rohc_context.specs.Record.{Record}
use Rattle.rohc_context.specs.Response.{Response}
use Rattle.rohc_context.specs.Step.{LoneStep}
use Rattle.rohc_concentrator.specs.declared.concentrator.Concentrator.{Concentrator}
use Rattle.rohc_concentrator.specs.declared.setting.LinkSetting.{LinkSetting}
use Rattle.rohc_concentrator.specs.Setting.{settings_of}
use Rattle.rohc_concentrator.specs.Tables.{setting_at, record_at, KeepsSettings}
use Rattle.rohc_concentrator.specs.Bears.{header_in, cid_in, borne, header_on}
use Rattle.rohc_concentrator.specs.Report.{Report, Arrived, Refused, OwnStep, IsPoor, IsCut, IsRead, IsAnswered, is_no_memory}
use Rattle.rohc_concentrator.specs.Seen.{Seen, seen_at, held_of, View, view_at}
use Rattle.rohc_concentrator.specs.Calls.{Call, Arrive, Reset, CallAnswer, Reported, Done, NoSuchLink, is_poor, LoneArrival, LoneForget, arrival_for, header_at, lone_answer, LoneAnswer, Replied, Told}
use Rattle.rohc_concentrator.specs.Owns.{Makes, WouldAdd, Owns, Steps}
use Rattle.rohc_concentrator.specs.RunsCall.{IsFrontOf, IsFrontIn, IsFrontOn, setting_made, LinkStep, RunsCall}
use Rattle.rohc_concentrator.proofs.ViewLemmas.{held_at, view_none, view_some}

module _ (old new : Concentrator) (link : ℕ) (e : Call) (a : CallAnswer) (event : RunsCall old link e a new) where
  -- the link's own step
  pub own_link : LinkStep (view_at old link) e a (view_at new link)
  own_link = let same : (link == link) ≡ true = eq-eqb link link refl in rw same at (event.each link)

  -- what every other link sees stays
  pub other_link : (l : ℕ) → l ≢ link → view_at new l ≡ view_at old l
  other_link l other = let apart : (link == l) ≡ false = ne_eqb link l (λ is. other (sym is)) in rw apart at (event.each l)

  pub other_record : (l c : ℕ) → l ≢ link → record_at new l c ≡ record_at old l c
  other_record l c other = sym (held_at new l c) ∙ ap (λ (v : View). held_of (v.seen c)) (other_link l other) ∙ held_at old l c

  -- where a call changes no setting, all stay
  pub each_setting : ((set : Option LinkSetting) → setting_made e a set ≡ set) → (l : ℕ) → setting_at new l ≡ setting_at old l
  each_setting stays l = by (link == l) (event.each l)
    where
      by : (b : Bool) → MatchBool b (LinkStep (view_at old l) e a (view_at new l)) (view_at new l ≡ view_at old l) → setting_at new l ≡ setting_at old l
      by true step = step.setting ∙ stays (setting_at old l)
      by false same = ap (λ (v : View). v.setting) same

-- ---- Arrivals

-- a response and a record from the own step of a CID
own_step : (c m : ℕ) (h : Header) (v : Seen) (response : Response) (relayed : List (List ℕ)) (after : Option Seen)
    → Owns c (LoneArrival m h) (Some v) (Reported (Arrived h.cid response relayed)) after → OwnStep v.settings m h v.held response (held_of after)
own_step c m h v response relayed after owns = by (is_no_memory response.outcome) owns
  where
    by : (poor : Bool) → MatchBool poor ((after ≡ Some v) × WouldAdd c (LoneArrival m h) (Some v) (Reported (Arrived h.cid response relayed))) (Makes c (LoneArrival m h) (Some v) (Replied response) after)
        → OwnStep v.settings m h v.held response (held_of after)
    by true (stays, (other, poor, e)) =
        let same : other ≡ response = (let f : ◌≡◌ {A = LoneAnswer} (Replied response) (Replied other) = e in cc) in
        inr (subst (λ z. IsPoor v.settings m h v.held response z) (sym (ap held_of stays)) (subst (λ r. IsPoor v.settings m h v.held r v.held) same poor))
    by false (other, held, step, e, is) =
        let same : other ≡ response = (let f : ◌≡◌ {A = LoneAnswer} (Replied response) (Replied other) = e in cc) in
        inl (subst (λ z. LoneStep v.held v.settings m h response z) (sym (ap held_of is)) (subst (λ r. LoneStep v.held v.settings m h r held) same step))

-- the answer to a packet on a link, by its parts
module _ (m : ℕ) (report : Report) (s : LinkSetting) (held next : ℕ → Option Record) (after : ℕ → Option Seen) (nexts : (c : ℕ) → held_of (after c) ≡ next c) where
  abbrev seen : ℕ → Option Seen
  seen c = Some (record { settings = settings_of s c; held = held c })

  answered_in : (parts : Result Reading FrameRefusal) → IsFrontIn parts (Reported report) → ((c : ℕ) → Steps c (arrival_for c m (header_in parts)) (seen c) (Reported report) (after c)) → IsRead s m parts held report next
  answered_in (Err refusal) front each = cc
  answered_in (Ok reading) front each = by reading.header front each
    where
      by : (header : Option Header) → IsFrontOf reading.elements header (Reported report) → ((c : ℕ) → Steps c (arrival_for c m header) (seen c) (Reported report) (after c))
          → IsCut s m reading.elements header held report next
      by None front each = cc
      by (Some h) (response, e) each =
          let is : report ≡ Arrived h.cid response reading.elements = cc in
          let same : (h.cid == h.cid) ≡ true = eq-eqb h.cid h.cid refl in
          let owns : Owns h.cid (LoneArrival m h) (seen h.cid) (Reported report) (after h.cid) = rw same at (each h.cid) in
          let step = own_step h.cid m h (record { settings = settings_of s h.cid; held = held h.cid }) response reading.elements (after h.cid)
          (subst (λ r. Owns h.cid (LoneArrival m h) (seen h.cid) (Reported r) (after h.cid)) is owns) in
          (response, is, subst (OwnStep (settings_of s h.cid) m h (held h.cid) response) (nexts h.cid) step)

module _ (old new : Concentrator) (link m : ℕ) (octets : List ℕ) (report : Report) (event : RunsCall old link (Arrive m octets) (Reported report) new) where
  pub arrival_settings : KeepsSettings old new
  arrival_settings = record { each = each_setting old new link (Arrive m octets) (Reported report) event (λ set. refl); in_order = event.links }

  -- an arrival is answered by the link's setting and records
  pub arrived : IsAnswered (setting_at old link) (record_at old link) m octets report (record_at new link)
  arrived = by (setting_at old link) refl
    where
      step : LinkStep (view_at old link) (Arrive m octets) (Reported report) (view_at new link)
      step = own_link old new link (Arrive m octets) (Reported report) event

      by : (set : Option LinkSetting) → setting_at old link ≡ set → IsAnswered set (record_at old link) m octets report (record_at new link)
      by None is =
          let front : IsFrontOn None octets (Reported report) = subst (λ z. IsFrontOn z octets (Reported report)) is step.front in
          let f : Reported report ≡ Reported (Refused refusals.NoLink) = front in cc
      by (Some s) is =
          answered_in m report s (record_at old link) (record_at new link) (λ c. seen_at new link c) (held_at new link) (parts_of s.settings.size s.settings.max_cid octets)
          (subst (λ z. IsFrontOn z octets (Reported report)) is step.front)
          (λ c. subst (λ (v : View). Steps c (arrival_for c m (header_at v.setting octets)) (v.seen c) (Reported report) (seen_at new link c)) (view_some old link s is) (step.each c))

  -- every record of a CID that the packet doesn't bear stays
  pub arrival_others : (l c : ℕ) → (l ≢ link) ⊎ (borne (setting_at old link) octets ≢ Some c) → record_at new l c ≡ record_at old l c
  arrival_others l c (inl other) = other_record old new link (Arrive m octets) (Reported report) event l c other
  arrival_others l c (inr apart) = by (link == l) refl (event.each l)
    where
      kept : (set : Option LinkSetting) → borne set octets ≢ Some c → arrival_for c m (header_at set octets) ≡ None
      kept None apart = refl
      kept (Some s) apart = in_header (header_on s octets) apart
        where
          in_header : (header : Option Header) → cid_in header ≢ Some c → arrival_for c m header ≡ None
          in_header None apart = refl
          in_header (Some h) apart = let other : (h.cid == c) ≡ false = ne_eqb h.cid c (λ is. apart (ap (λ d. Some d) is)) in rw other refl

      by : (b : Bool) → (link == l) ≡ b → MatchBool b (LinkStep (view_at old l) (Arrive m octets) (Reported report) (view_at new l)) (view_at new l ≡ view_at old l) → record_at new l c ≡ record_at old l c
      by true is step =
          let here : link ≡ l = eqb-true link l is in
          let none : arrival_for c m (header_at (setting_at old l) octets) ≡ None = kept (setting_at old l) (subst (λ n. borne (setting_at old n) octets ≢ Some c) here apart) in
          let same : seen_at new l c ≡ seen_at old l c = rw none at (step.each c) in
          sym (held_at new l c) ∙ ap held_of same ∙ held_at old l c
      by false is same = sym (held_at new l c) ∙ ap (λ (v : View). held_of (v.seen c)) same ∙ held_at old l c

-- ---- Resets

-- the answer to a reset, by whether its link is there
abbrev pub reset_of : Option LinkSetting → CallAnswer
reset_of None = NoSuchLink
reset_of (Some s) = Done

forgotten_by : (c : ℕ) (before : Option Seen) (a : CallAnswer) (after : Option Seen) → is_poor a ≡ false → Owns c LoneForget before a after → held_of after ≡ None
forgotten_by c before a after rich owns = makes before (rw rich at owns)
  where
    makes : (before : Option Seen) → Makes c LoneForget before (lone_answer a) after → held_of after ≡ None
    makes None made = ap held_of made.1
    makes (Some v) made = ap held_of made.1

module _ (old new : Concentrator) (link : ℕ) (a : CallAnswer) (rich : is_poor a ≡ false) (event : RunsCall old link Reset a new) where
  pub reset_settings : KeepsSettings old new
  reset_settings = record { each = each_setting old new link Reset a event (λ set. refl); in_order = event.links }

  -- every record of the link is forgotten
  pub reset_forgets : (c : ℕ) → record_at new link c ≡ None
  reset_forgets c = sym (held_at new link c) ∙ forgotten_by c (seen_at old link c) a (seen_at new link c) rich ((own_link old new link Reset a event).each c)

  -- the answer to a reset tells whether its link is there
  pub reset_answer : (set : Option LinkSetting) → setting_at old link ≡ set → lone_answer a ≡ Told (reset_of set)
  reset_answer set is = by set is
    where
      owns : Owns 0 LoneForget (seen_at old link 0) a (seen_at new link 0)
      owns = (own_link old new link Reset a event).each 0

      by : (set : Option LinkSetting) → setting_at old link ≡ set → lone_answer a ≡ Told (reset_of set)
      by None is = (rw (rich, ap (λ (v : View). v.seen 0) (view_none old link is)) at owns).0
      by (Some s) is = (rw (rich, ap (λ (v : View). v.seen 0) (view_some old link s is)) at owns).0

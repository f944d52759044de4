-- Two concentrators that agree on what one identifier needs answer it alike.
use Rattle.std.proofs.Common.{◌≡◌, ◌≢◌, ℕ, ◌<◌, ◌^◌, List, [], ◌∷◌, All, IfSome, true, false, Option, Some, None, Result, Ok, Err, ◌⊎◌, inl, inr, ⊎_elim, refl, sym, ◌∙◌, ap, subst}
use Rattle.std.specs.List.{AllByRecursion}
use Rattle.std.proofs.lemmas.Bool.{cases_eq}
use Rattle.rohc_frame.specs.Header.{Header}
use Rattle.rohc_frame.specs.Laws.{IsOctet}
use Rattle.rohc_frame.specs.Reading.{Reading}
use Rattle.rohc_frame.specs.Parts.{parts_of}
use Rattle.rohc_frame.specs.declared.refusal.FrameRefusal.{FrameRefusal}
use Rattle.rohc_context.specs.declared.refusal.Refusal.{Refusal}
use Rattle.rohc_context.specs.declared.refusal.Refusal.TheVariants as refusals
use Rattle.rohc_context.specs.declared.reply.Outcome.{Outcome}
use Rattle.rohc_context.specs.declared.reply.Outcome.TheVariants as outcomes
use Rattle.rohc_context.specs.declared.settings.Settings.{Settings}
use Rattle.rohc_context.specs.Good.{AreGoodValues, IsGoodHeader, IsGoodRecord}
use Rattle.rohc_context.specs.Settings.{AreGood}
use Rattle.rohc_context.specs.Record.{Record}
use Rattle.rohc_context.specs.Response.{Response}
use Rattle.rohc_context.proofs.StepLaws.{has_no_other, leaves_good, never_poor}
use Rattle.rohc_concentrator.specs.declared.concentrator.Concentrator.{Concentrator}
use Rattle.rohc_concentrator.specs.declared.setting.LinkSetting.{LinkSetting}
use Rattle.rohc_concentrator.specs.Setting.{settings_of}
use Rattle.rohc_concentrator.specs.Tables.{setting_at, record_at}
use Rattle.rohc_concentrator.specs.Events.{Arrives, Reset, RunsEvent}
use Rattle.rohc_concentrator.specs.Calls as calls
use Rattle.rohc_concentrator.specs.Calls.{CallAnswer, Done, NoSuchLink, is_poor, lone_answer, Told}
use Rattle.rohc_concentrator.specs.RunsCall.{RunsCall}
use Rattle.rohc_concentrator.specs.Bears.{borne, header_in, cid_in}
use Rattle.rohc_concentrator.specs.Report.{Report, Arrived, OwnStep, IsArrival, IsCut, IsRead, IsAnswered, is_no_memory, wants_memory, is_refusal, is_refused, OnlyFront, Refused}
use Rattle.rohc_concentrator.specs.LoneRun.{LoneEvent, Arrival, Forget, LoneRun}
use Rattle.rohc_concentrator.specs.Laws.{TwoWorlds, WantIsRefusal, IsTakenUp, TakenUpOrRefused, TakenHasALink, AreAlike}
use Rattle.rohc_concentrator.proofs.ArrivedLemmas.{arrived, arrival_settings, arrival_others, other_record, reset_settings, reset_forgets, reset_answer}
use Rattle.rohc_concentrator.proofs.GoodLemmas.{good_arrival}

-- no other outcome is want of memory
pub is_no_memory-only : (o : Outcome) → is_no_memory o ≡ true → o ≡ outcomes.Refused refusals.NoMemory
is_no_memory-only (outcomes.Refused refusals.NoMemory) e = refl
is_no_memory-only o e = absurd (let f : false ≡ true = e in cc)

-- the own step of an identifier, or want of memory, has one reply and one record after it
own_step_one : (s : Settings) (m : ℕ) (h : Header) (before : Option Record) (x y : Response) (a b : Option Record) → AreGoodValues before s m h → OwnStep s m h before x a → OwnStep s m h before y b →
    is_no_memory x.outcome ≡ is_no_memory y.outcome → (x ≡ y) × (a ≡ b)
own_step_one s m h before x y a b good (inl p) (inl q) e = has_no_other before s m h good x y a b p q
own_step_one s m h before x y a b good (inr p) (inr q) e = (p.2 ∙ sym q.2, p.1 ∙ sym q.1)
own_step_one s m h before x y a b good (inl p) (inr q) e = absurd (never_poor before s m h x a p (is_no_memory-only x.outcome (e ∙ ap (λ (r : Response). is_no_memory r.outcome) q.2)))
own_step_one s m h before x y a b good (inr p) (inl q) e = absurd (never_poor before s m h y b q (is_no_memory-only y.outcome (sym e ∙ ap (λ (r : Response). is_no_memory r.outcome) p.2)))

module _ (s t : LinkSetting) (m : ℕ) (before there after after_there : ℕ → Option Record) (x y : Report) where
  arrival_one : (h : Header) (relayed : List (List ℕ)) → settings_of s h.cid ≡ settings_of t h.cid → before h.cid ≡ there h.cid → AreGoodValues (before h.cid) (settings_of s h.cid) m h →
      IsArrival s m h relayed before x after → IsArrival t m h relayed there y after_there → wants_memory x ≡ wants_memory y → (x ≡ y) × (after h.cid ≡ after_there h.cid)
  arrival_one h relayed settings records good p q e =
      let wants : is_no_memory p.0.outcome ≡ is_no_memory q.0.outcome = sym (ap wants_memory p.1) ∙ e ∙ ap wants_memory q.1 in
      let own : OwnStep (settings_of s h.cid) m h (before h.cid) q.0 (after_there h.cid) =
      subst (λ z. OwnStep z m h (before h.cid) q.0 (after_there h.cid)) (sym settings) (subst (λ b. OwnStep (settings_of t h.cid) m h b q.0 (after_there h.cid)) (sym records) q.2) in
      let step = own_step_one (settings_of s h.cid) m h (before h.cid) p.0 q.0 (after h.cid) (after_there h.cid) good p.2 own wants in
      (p.1 ∙ ap (λ r. Arrived h.cid r relayed) step.0 ∙ sym q.1, step.1)

  -- what a header needs to be answered alike
  abbrev pub Meets : Header → Type 0
  Meets h = (settings_of s h.cid ≡ settings_of t h.cid) × (before h.cid ≡ there h.cid) × AreGoodValues (before h.cid) (settings_of s h.cid) m h

  cut_one : (relayed : List (List ℕ)) (header : Option Header) → ((h : Header) → header ≡ Some h → Meets h) → IsCut s m relayed header before x after → IsCut t m relayed header there y after_there →
      wants_memory x ≡ wants_memory y → (x ≡ y) × ((c : ℕ) → cid_in header ≡ Some c → after c ≡ after_there c)
  cut_one relayed None meets p q e = (p ∙ sym q, λ c borne. absurd (let f : ◌≡◌ {A = Option ℕ} None (Some c) = borne in cc))
  cut_one relayed (Some h) meets p q e =
      let met = meets h refl in
      let one = arrival_one h relayed met.0 met.1 met.2 p q e in
      (one.0, λ c borne. let same : h.cid ≡ c = (let f : ◌≡◌ {A = Option ℕ} (Some h.cid) (Some c) = borne in cc) in subst (λ d. after d ≡ after_there d) same one.1)

  pub read_one : (parts : Result Reading FrameRefusal) → ((r : Reading) (h : Header) → parts ≡ Ok r → r.header ≡ Some h → Meets h) → IsRead s m parts before x after → IsRead t m parts there y after_there →
      wants_memory x ≡ wants_memory y → (x ≡ y) × ((c : ℕ) → cid_in (header_in parts) ≡ Some c → after c ≡ after_there c)
  read_one (Err refusal) meets p q e = (p ∙ sym q, λ c borne. absurd (let f : ◌≡◌ {A = Option ℕ} None (Some c) = borne in cc))
  read_one (Ok r) meets p q e = cut_one r.elements r.header (λ h. meets r h refl) p q e

-- equal settings of an identifier cut a packet alike
same_parts : (s t : LinkSetting) (c : ℕ) (octets : List ℕ) → settings_of s c ≡ settings_of t c → parts_of s.settings.size s.settings.max_cid octets ≡ parts_of t.settings.size t.settings.max_cid octets
same_parts s t c octets e = ap (λ (z : Settings). parts_of z.size z.max_cid octets) e

pub two_worlds : TwoWorlds
two_worlds a b after_a after_b l c m octets x y agree fits all bears p q rich_x rich_y =
    let s = agree.here in
    let t = agree.there in
    let parts = parts_of s.settings.size s.settings.max_cid octets in
    let borne_here : cid_in (header_in parts) ≡ Some c = subst (λ z. borne z octets ≡ Some c) agree.set_here bears in
    let here : IsRead s m parts (record_at a l) x (record_at after_a l) = subst (λ z. IsAnswered z (record_at a l) m octets x (record_at after_a l)) agree.set_here (arrived a after_a l m octets x p) in
    let there : IsRead t m parts (record_at b l) y (record_at after_b l) =
    subst (λ z. IsRead t m z (record_at b l) y (record_at after_b l)) (sym (same_parts s t c octets agree.settings)) (subst (λ z. IsAnswered z (record_at b l) m octets y (record_at after_b l)) agree.set_there (arrived b after_b l m octets y q)) in
    let bears_cid : (r : Reading) (h : Header) → parts ≡ Ok r → r.header ≡ Some h → h.cid ≡ c =
    λ r h e f. let g : ◌≡◌ {A = Option ℕ} (Some h.cid) (Some c) = sym (ap cid_in f) ∙ sym (ap (λ z. cid_in (header_in z)) e) ∙ borne_here in cc in
    let one = read_one s t m (record_at a l) (record_at b l) (record_at after_a l) (record_at after_b l) x y parts
    (λ r h e f. let same = bears_cid r h e f in (
      subst (λ d. settings_of s d ≡ settings_of t d) (sym same) agree.settings,
      subst (λ d. record_at a l d ≡ record_at b l d) (sym same) agree.records,
      good_arrival a l h.cid m s octets r h agree.set_here fits e f all,
    ))
    here there (rich_x ∙ sym rich_y) in
    (one.0, one.1 c borne_here)

-- A refusal makes no record.

pub which_refusal : (o : Outcome) → is_refusal o ≡ true → (refusal : Refusal) × (o ≡ outcomes.Refused refusal)
which_refusal (outcomes.Refused refusal) e = (refusal, refl)
which_refusal outcomes.Delivered e = absurd (let f : false ≡ true = e in cc)
which_refusal outcomes.Stored e = absurd (let f : false ≡ true = e in cc)

taken_outcome : (o : Outcome) → is_refusal o ≡ false → (o ≡ outcomes.Delivered) ⊎ (o ≡ outcomes.Stored)
taken_outcome (outcomes.Refused refusal) e = absurd (let f : true ≡ false = e in cc)
taken_outcome outcomes.Delivered e = inl refl
taken_outcome outcomes.Stored e = inr refl

pub want_is_refusal : WantIsRefusal
want_is_refusal (Arrived cid response relayed) wants = ap is_refusal (is_no_memory-only response.outcome wants)
want_is_refusal (OnlyFront relayed) wants = absurd (let f : false ≡ true = wants in cc)
want_is_refusal (Refused refusal) wants = refl

taken_up : (report : Report) → is_refused report ≡ false → IsTakenUp report
taken_up (Arrived cid response relayed) e = inr (cid, response, relayed, refl, taken_outcome response.outcome e)
taken_up (OnlyFront relayed) e = inl (relayed, refl)
taken_up (Refused refusal) e = absurd (let f : true ≡ false = e in cc)

not_refused : (report : Report) → IsTakenUp report → is_refused report ≡ false
not_refused report (inl (relayed, e)) = ap is_refused e
not_refused report (inr (cid, response, relayed, e, inl delivered)) = ap is_refused e ∙ ap is_refusal delivered
not_refused report (inr (cid, response, relayed, e, inr stored)) = ap is_refused e ∙ ap is_refusal stored

pub taken_up_or_refused : TakenUpOrRefused
taken_up_or_refused report = (taken_up report, not_refused report)

taken_on : (set : Option LinkSetting) (m : ℕ) (octets : List ℕ) (before after : ℕ → Option Record) (report : Report) → IsAnswered set before m octets report after → is_refused report ≡ false → (s : LinkSetting) × (set ≡ Some s)
taken_on (Some s) m octets before after report a taken = (s, refl)
taken_on None m octets before after report a taken = absurd (let f : true ≡ false = sym (ap is_refused a) ∙ taken in cc)

pub taken_has_a_link : TakenHasALink
taken_has_a_link old new l m octets report a taken = taken_on (setting_at old l) m octets (record_at old l) (record_at new l) report (arrived old new l m octets report a) taken

-- an identifier is borne or it isn't
borne_or_not : (b : Option ℕ) (c : ℕ) → (b ≡ Some c) ⊎ (b ≢ Some c)
borne_or_not None c = inr (λ e. let f : ◌≡◌ {A = Option ℕ} None (Some c) = e in cc)
borne_or_not (Some d) c = ⊎_elim (λ e. inl (ap (λ x. Some x) e)) (λ apart. inr (λ e. apart (let f : ◌≡◌ {A = Option ℕ} (Some d) (Some c) = e in cc))) (cases_eq d c)

-- Alike concentrators stay alike.

module _ (a b after_a after_b : Concentrator) (l m : ℕ) (octets : List ℕ) (x y : Report) (alike : AreAlike a b) (fits : m < 2 ^ 64) (all : All IsOctet octets)
    (p : Arrives a l m octets x after_a) (q : Arrives b l m octets y after_b) (wants : wants_memory x ≡ wants_memory y) where
  abbrev pub AnsweredAlike : Option LinkSetting → Type 0
  AnsweredAlike set = (x ≡ y) × ((c : ℕ) → borne set octets ≡ Some c → record_at after_a l c ≡ record_at after_b l c)

  answered_alike : (set : Option LinkSetting) → setting_at a l ≡ set → IsAnswered set (record_at a l) m octets x (record_at after_a l) → IsAnswered set (record_at b l) m octets y (record_at after_b l) → AnsweredAlike set
  answered_alike None set here there = (here ∙ sym there, λ c bears. absurd (let f : ◌≡◌ {A = Option ℕ} None (Some c) = bears in cc))
  answered_alike (Some s) set here there =
      read_one s s m (record_at a l) (record_at b l) (record_at after_a l) (record_at after_b l) x y (parts_of s.settings.size s.settings.max_cid octets)
      (λ r h e f. (refl, alike.records l h.cid, good_arrival a l h.cid m s octets r h set fits e f all))
      here there wants

  both_answered : AnsweredAlike (setting_at a l)
  both_answered = answered_alike (setting_at a l) refl (arrived a after_a l m octets x p) (subst (λ z. IsAnswered z (record_at b l) m octets y (record_at after_b l)) (sym (alike.settings l)) (arrived b after_b l m octets y q))

  others_alike : (k d : ℕ) → (k ≢ l) ⊎ (borne (setting_at a l) octets ≢ Some d) → record_at after_a k d ≡ record_at after_b k d
  others_alike k d apart = arrival_others a after_a l m octets x p k d apart ∙ alike.records k d ∙ sym (arrival_others b after_b l m octets y q k d (subst (λ z. (k ≢ l) ⊎ (borne z octets ≢ Some d)) (alike.settings l) apart))

  -- an arrival is answered alike, and leaves them alike, where both or neither want memory
  pub arrive_alike : (x ≡ y) × AreAlike after_a after_b
  arrive_alike = (
    both_answered.0,
    record {
      settings = λ k. (arrival_settings a after_a l m octets x p).each k ∙ alike.settings k ∙ sym ((arrival_settings b after_b l m octets y q).each k);
      records = λ k d. ⊎_elim
          (λ here. ⊎_elim
          (λ bears. subst (λ z. record_at after_a z d ≡ record_at after_b z d) (sym here) (both_answered.1 d bears))
          (λ apart. others_alike k d (inr apart))
          (borne_or_not (borne (setting_at a l) octets) d))
          (λ apart. others_alike k d (inl apart))
          (cases_eq k l);
    },
  )

-- and so does a reset
module _ (a b after_a after_b : Concentrator) (l : ℕ) (alike : AreAlike a b) (x y : CallAnswer) (rich_x : is_poor x ≡ false) (rich_y : is_poor y ≡ false)
    (p : RunsCall a l calls.Reset x after_a) (q : RunsCall b l calls.Reset y after_b) where
  resets_alike : (lone_answer x ≡ lone_answer y) × AreAlike after_a after_b
  resets_alike = (
    reset_answer a after_a l x rich_x p (setting_at a l) refl ∙ sym (reset_answer b after_b l y rich_y q (setting_at a l) (sym (alike.settings l))),
    record {
      settings = λ k. (reset_settings a after_a l x rich_x p).each k ∙ alike.settings k ∙ sym ((reset_settings b after_b l y rich_y q).each k);
      records = λ k d. ⊎_elim
          (λ here. subst (λ z. record_at after_a z d ≡ record_at after_b z d) (sym here) (reset_forgets a after_a l x rich_x p d ∙ sym (reset_forgets b after_b l y rich_y q d)))
          (λ apart. other_record a after_a l calls.Reset x p k d apart ∙ alike.records k d ∙ sym (other_record b after_b l calls.Reset y q k d apart))
          (cases_eq k l);
    },
  )

pub reset_alike : (a b after_a after_b : Concentrator) (l : ℕ) (x y : Option Report) → AreAlike a b → RunsEvent a (Reset l) x after_a → RunsEvent b (Reset l) y after_b
    → (x ≡ y) × AreAlike after_a after_b
reset_alike a b after_a after_b l None None alike p q = (refl, (resets_alike a b after_a after_b l alike Done Done refl refl p q).1)
reset_alike a b after_a after_b l None (Some y) alike p q =
    absurd (let f : Told Done ≡ Told NoSuchLink = (resets_alike a b after_a after_b l alike Done NoSuchLink refl refl p q.0).0 in cc)
reset_alike a b after_a after_b l (Some x) None alike p q =
    absurd (let f : Told NoSuchLink ≡ Told Done = (resets_alike a b after_a after_b l alike NoSuchLink Done refl refl p.0 q).0 in cc)
reset_alike a b after_a after_b l (Some x) (Some y) alike p q =
    (ap (λ r. Some r) (p.1 ∙ sym q.1), (resets_alike a b after_a after_b l alike NoSuchLink NoSuchLink refl refl p.0 q.0).1)

-- A lone run has one list of replies and one record after it.

abbrev pub IsGoodEvent : Settings → LoneEvent → Type 0
IsGoodEvent s (Arrival m h) = (m < 2 ^ 64) × IsGoodHeader s h
IsGoodEvent s Forget = Unit {0}

pub lone_run_one : (s : Settings) (before : Option Record) (events : List LoneEvent) (x y : List Response) (a b : Option Record) → AreGood s → AllByRecursion (IsGoodEvent s) events → IfSome before IsGoodRecord →
    LoneRun s before events x a → LoneRun s before events y b → (x ≡ y) × (a ≡ b)
lone_run_one s before [] [] [] a b good each kept p q = (refl, p ∙ sym q)
lone_run_one s before [] (r ∷ x) y a b good each kept p q = absurd p
lone_run_one s before [] [] (r ∷ y) a b good each kept p q = absurd q
lone_run_one s before (Forget ∷ events) x y a b good each kept p q = lone_run_one s None events x y a b good each.1 tt p q
lone_run_one s before (Arrival m h ∷ events) [] y a b good each kept p q = absurd p
lone_run_one s before (Arrival m h ∷ events) (r ∷ x) [] a b good each kept p q = absurd q
lone_run_one s before (Arrival m h ∷ events) (r ∷ x) (t ∷ y) a b good each kept p q =
    let values : AreGoodValues before s m h = record { record_before = kept; settings = good; moment_fits = each.0.0; header = each.0.1 } in
    let one = has_no_other before s m h values r t p.0 q.0 p.1 q.1 in
    let rest = lone_run_one s p.0 events x y a b good each.1 (leaves_good before s m h values r p.0 p.1) p.2 (subst (λ z. LoneRun s z events y b) (sym one.1) q.2) in
    (ap (λ z. z ∷ x) one.0 ∙ ap (λ z. t ∷ z) rest.0, rest.1)

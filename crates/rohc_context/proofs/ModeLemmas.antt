-- Modes, the previous reference, what is taken at once, and what is lent.
use Rattle.std.proofs.Common.{◌≡◌, ℕ, ◌-◌, ◌+◌, ◌/◌, ◌%◌, ◌<◌, ◌≤◌, ◌⊎◌, inl, inr, List, [], ◌∷◌, ◌++◌, length, Bool, true, false, Option, Some, None, refl, sym, ap, subst, ◌∙◌, arith, rules}
use Rattle.std.specs.Prelude.{All, get_or, Result, Ok, Err, IfOk, is_some, nat_lt, nat_le, ◌↔◌, if◌then◌else◌}
use Rattle.std.proofs.lemmas.Bool.Decides.{nat_tests}
use Rattle.rohc_bits.specs.Bits.{IsOctet}
use Rattle.rohc_lsb.specs.Interval.{ExactlyOne}
use Rattle.rohc_frame.specs.declared.header.HeadKind.{HeadKind}
use Rattle.rohc_frame.specs.declared.header.HeadKind.TheVariants.{IrDyn, Other}
use Rattle.rohc_frame.specs.Header.{Header, IsIr, IsIrDyn}
use Rattle.rohc_header.specs.declared.fields.Static.{Static}
use Rattle.rohc_header.specs.declared.fields.Dynamic.{Dynamic}
use Rattle.rohc_header.specs.Original.{longest_payload, word, flag}
use Rattle.rohc_chain.specs.Good.{IsGoodStatic}
use Rattle.rohc_chain.specs.ChainText.{SpellsGiven}
use Rattle.rohc_chain.specs.Texts.{IsIrDynText, check_of}
use Rattle.rohc_chain.proofs.TextLemmas.{dyn_text}
use Rattle.rohc_chain.specs.Packets.{IrContent, DynContent, kept_values, cover}
use Rattle.rohc_chain.specs.Packets as chain
use Rattle.rohc_forms.specs.declared.refusal.FormRefusal.{FormRefusal}
use Rattle.rohc_forms.specs.Content.{Content}
use Rattle.rohc_forms.specs.Kinds.{is_uor2}
use Rattle.rohc_forms.specs.Good.{IsGoodContent}
use Rattle.rohc_context.specs.Settings.{Limits, limits}
use Rattle.rohc_context.specs.declared.due.Due.{Due}
use Rattle.rohc_context.specs.declared.due.Due.TheVariants as dues
use Rattle.rohc_context.specs.declared.fault.Fault.{Fault}
use Rattle.rohc_context.specs.declared.fault.Fault.TheVariants.{Unfit, Refused}
use Rattle.rohc_context.specs.declared.refusal.Refusal.{Refusal}
use Rattle.rohc_context.specs.declared.refusal.Refusal.TheVariants as refusals
use Rattle.rohc_context.specs.declared.reply.Outcome.TheVariants as outcomes
use Rattle.rohc_context.specs.declared.settings.Settings.{Settings}
use Rattle.rohc_context.specs.Refusal.{number_of}
use Rattle.rohc_context.specs.Good.{IsGoodState}
use Rattle.rohc_context.specs.Record.{Reference, State, Plain, NoContext, StaticContext, FullContext, Record}
use Rattle.rohc_context.specs.Response.{Response, delivered}
use Rattle.rohc_context.specs.Faults.{fault_of_form}
use Rattle.rohc_context.specs.Failures.{leads_to, sn_of, after_check, after_low_state}
use Rattle.rohc_context.specs.Window.{and_outcome, is_filled}
use Rattle.rohc_context.specs.Outcomes.{refusal_of, ends}
use Rattle.rohc_context.specs.Renewal.{Renewed}
use Rattle.rohc_context.specs.Refresh.{kept_by, dyn_said}
use Rattle.rohc_context.specs.NextReference.{first_reference}
use Rattle.rohc_context.specs.Explains.{Explained, Explains}
use Rattle.rohc_context.specs.Tries.{Try, Fits, Acceptance, Verdict, unshifted, static_tries, full_tries}
use Rattle.rohc_context.specs.Update.{said_under, VerdictUnless, Judges, settled, promoted, updated, acknowledged, silent}
use Rattle.rohc_context.specs.Step.{Update, TooLow, rule, counting, Follows, Steps, Gives, Answers, arrival, LoneStep}
use Rattle.rohc_context.specs.Modes.{IsSilentInU, KeepsPrevious, HasOneTry, SavesByReference, Holds, KeepsFlags, MeansOneUnrefused}
use Rattle.rohc_context.proofs.Cases.{Trying, trying, Tried, Case, step_case, counting_is, renews, strays, refuses, checks, lows, restores, refreshes, normal, promotes, updates}
use Rattle.rohc_context.proofs.StepLemmas.{form_reads}
use Rattle.rohc_context.proofs.HonestLemmas.{means_one_header}
use Rattle.rohc_context.proofs.Common.{nothing_sent, gives}

-- ---- U mode

pub is_silent_in_u : IsSilentInU
unfolding LoneStep
is_silent_in_u before s m h a x (ending, steps, (told, next)) = (ending, steps, (ap (λ (b : Response). record b { feedback = None }) told, next))

-- ---- The previous reference

some_is : (a b : Record) → Some a ≡ Some b → a ≡ b
some_is a b e = cc

-- the state of the record after an arrival
left_is : (after : Record) (m : ℕ) (state : State) → Some after ≡ Some (record { accepted = m; state = state }) → after.state ≡ state
left_is after m state e = ap (λ (r : Record). r.state) (some_is after (record { accepted = m; state = state }) e)

-- Full Context with a previous reference isn't a state without one
abbrev IsWithout : State → Type 0
IsWithout Plain = Unit {0}
IsWithout (NoContext nacked) = Unit {0}
IsWithout (StaticContext fixed reference first second) = Unit {0}
IsWithout (FullContext fixed reference previous window) = previous ≡ None

without : (state : State) (fixed : Static) (reference previous : Reference) (window : List Bool) → IsWithout state → state ≡ FullContext fixed reference (Some previous) window → ⊥
without Plain fixed reference previous window none e = cc
without (NoContext nacked) fixed reference previous window none e = cc
without (StaticContext also held first second) fixed reference previous window none e = cc
without (FullContext also held other counted) fixed reference previous window none e = let f : other ≡ Some previous = cc in let g : None ≡ Some previous = sym none ∙ f in cc

renewed_without : (s : Settings) (m : ℕ) (h : Header) (state : Option State) (content : IrContent) (a : Response) (after : Record)
    → Answers s h (Renewed (arrival s m h) state content) a (Some after) → IsWithout after.state
renewed_without s m h state (chain.Plain packet) a after (e, f, p) = subst IsWithout (sym (left_is after m _ (gives s h e _ a (Some after) f p).1)) tt
renewed_without s m h state (chain.StaticOnly fixed) a after (e, f, p) = subst IsWithout (sym (left_is after m _ (gives s h e _ a (Some after) f p).1)) tt
renewed_without s m h state (chain.Whole fixed moving payload) a after (e, (octets, is, f), p) = subst IsWithout (sym (left_is after m _ (gives s h e _ a (Some after) f p).1)) refl

-- a state that has what it had, or falls
abbrev KeepsOrFalls : State → State → Type 0
KeepsOrFalls state left = IsWithout left ⊎ ((fixed : Static) × (reference : Reference) × (previous : Option Reference) × (old new : List Bool)
    × (state ≡ FullContext fixed reference previous old) × (left ≡ FullContext fixed reference previous new))

check_keeps : (s : Limits) (m : ℕ) (state : State) → KeepsOrFalls state (after_check s m state).state
check_keeps s m Plain = inl tt
check_keeps s m (NoContext nacked) = inl tt
check_keeps s m (FullContext fixed reference previous window) = go (is_filled s.k1 s.n1 (and_outcome true window)) where
  go : (falls : Bool) → KeepsOrFalls (FullContext fixed reference previous window)
      (if falls then leads_to (StaticContext fixed (Some reference) [] []) (dues.Nack (Some reference.moving.sn)) else leads_to (FullContext fixed reference previous (and_outcome true window)) dues.Nothing).state
  go true = inl tt
  go false = inr (fixed, reference, previous, window, and_outcome true window, refl, refl)
check_keeps s m (StaticContext fixed reference first second) = inl (go _ _) where
  go : (falls asks : Bool) → IsWithout (if falls then leads_to (NoContext m) dues.StaticNack
      else if asks then leads_to (StaticContext fixed reference [] (and_outcome true second)) (dues.Nack (sn_of reference))
      else leads_to (StaticContext fixed reference (and_outcome true first) (and_outcome true second)) dues.Nothing).state
  go true asks = tt
  go false true = tt
  go false false = tt

low_keeps : (s : Limits) (m : ℕ) (state : State) → KeepsOrFalls state (after_low_state s m state).state
low_keeps s m Plain = inl tt
low_keeps s m (NoContext nacked) = inl (go _) where
  go : (due : Bool) → IsWithout (if due then leads_to (NoContext m) dues.StaticNack else leads_to (NoContext nacked) dues.Nothing).state
  go true = tt
  go false = tt
low_keeps s m (FullContext fixed reference previous window) = inr (fixed, reference, previous, window, window, refl, refl)
low_keeps s m (StaticContext fixed reference first second) = inl (go _) where
  go : (asks : Bool) → IsWithout (if asks then leads_to (StaticContext fixed reference [] second) (dues.Nack (sn_of reference)) else leads_to (StaticContext fixed reference (and_outcome true first) second) dues.Nothing).state
  go true = tt
  go false = tt

pub keeps_previous : KeepsPrevious
keeps_previous before s m h a after fixed reference previous window step e = go (step_case before s m h a (Some after) step) where
  Wanted : Type 0
  Wanted = (r : Record) × (also : Static) × (held : Reference) × (other : Option Reference) × (counted : List Bool)
      × (before ≡ Some r) × (r.state ≡ FullContext also held other counted) × ((h.kind ≡ Other) ⊎ (other ≡ Some previous))

  none : IsWithout after.state → Wanted
  none is = absurd (without after.state fixed reference previous window is e)

  leaves : (m : ℕ) (state : State) → IsWithout state → Some after ≡ Some (record { accepted = m; state = state }) → Wanted
  leaves m state is f = none (subst IsWithout (sym (left_is after m state f)) is)

  kept : (r : Record) → before ≡ Some r → KeepsOrFalls r.state after.state → Wanted
  kept r is (inl empty) = none empty
  kept r is (inr (also, held, other, old, new, was, left)) =
      let same : FullContext also held other new ≡ FullContext fixed reference (Some previous) window = sym left ∙ e in
      (r, also, held, other, old, is, was, inr cc)

  fails : (r : Record) (state : State) → counting s m before ≡ Some r → KeepsOrFalls r.state state → Some after ≡ Some (record { accepted = r.accepted; state = state }) → Wanted
  fails r state is keeps f = kept r (counting_is s m before r is) (subst (KeepsOrFalls r.state) (sym (left_is after r.accepted state f)) keeps)

  go : Case before s m h a (Some after) → Wanted
  go (renews content ir read p) = none (renewed_without s m h _ content a after p)
  go (strays refusal counts_none which f g) = (after, fixed, reference, Some previous, window, sym g, e, inr refl)
  go (refuses refusal of_octets f g) = (after, fixed, reference, Some previous, window, sym g, e, inr refl)
  go (checks r is p) = fails r _ is (check_keeps (limits s) m r.state) p.1
  go (lows r is low p) = fails r _ is (low_keeps (limits s) m r.state) p.1
  go (restores r also held f g d is kind was read (octets, o, p)) = leaves m _ refl p.1
  go (refreshes r also held other w d is kind was read (octets, o, p)) = leaves m _ refl p.1
  go (normal r is kind was p) = leaves m Plain tt p.1
  go (promotes r also held f g v is kind was judges p) = leaves m _ refl p.1
  go (updates r also held other w v is kind was judges p) = (r, also, held, other, w, counting_is s m before r is, was, inl kind)

-- ---- A UOR-2

-- an acceptance is what its parts are
accepted_is : (v w : Acceptance) → (let x : Result Acceptance Fault = Ok v in x) ≡ Ok w → v ≡ w
accepted_is v w e = cc

long_checked : (s : Limits) (passed : ℕ) (reference : Reference) (previous : Option Reference) (c : Content) → is_uor2 c.kind ≡ true
    → full_tries s passed reference previous c ≡ unshifted reference ∷ []
long_checked s passed reference None c e = rw e refl
long_checked s passed reference (Some previous) c e = rw e refl

one_try : (s : Limits) (passed : ℕ) (h : Header) (fixed : Static) (reference : Reference) (previous : Option Reference) (c : Content) (v : Acceptance) → said_under h reference ≡ Ok c
    → is_uor2 c.kind ≡ true → Judges fixed (full_tries s passed reference previous) (said_under h reference) (Ok v) → (v.content ≡ c) × Fits fixed (unshifted reference) c v.header
one_try s passed h fixed reference previous c v read long judges =
    go (nat_lt longest_payload (length c.payload)) (subst (λ r. Judges fixed (full_tries s passed reference previous) r (Ok v)) read judges) where
      tried : Verdict fixed c (unshifted reference ∷ []) (Ok v) → (v.content ≡ c) × Fits fixed (unshifted reference) c v.header
      tried (inl (e, fits, is)) =
          let same = accepted_is v (record { content = c; reference = reference; header = e }) is in
          (ap (λ (a : Acceptance). a.content) same, subst (λ (a : Acceptance). Fits fixed (unshifted reference) c a.header) (sym same) fits)
      tried (inr (misses, is)) = absurd (let f : Ok v ≡ Err Unfit = is in cc)

      go : (too_long : Bool) → VerdictUnless too_long fixed c (full_tries s passed reference previous c) (Ok v) → (v.content ≡ c) × Fits fixed (unshifted reference) c v.header
      go true e = absurd cc
      go false p = tried (subst (λ tries. Verdict fixed c tries (Ok v)) (long_checked s passed reference previous c long) p)

pub has_one_try : HasOneTry
has_one_try r fixed reference previous window s m h c a x state counted other read long step delivers = go (step_case (Some r) s m h a x step) where
  Wanted : Type 0
  Wanted = (e : Explained) × Fits fixed (unshifted reference) c e × (a ≡ delivered e.octets c.payload None)

  here : counting s m (Some r) ≡ Some r
  here = ap (λ b. if b then Some r else None) counted

  same : (q : Record) → counting s m (Some r) ≡ Some q → q ≡ r
  same q is = some_is q r (sym is ∙ here)

  -- its state is the record's
  full : (q : Record) (st : State) → counting s m (Some r) ≡ Some q → q.state ≡ st → st ≡ FullContext fixed reference previous window
  full q st is e = sym e ∙ ap (λ (k : Record). k.state) (same q is) ∙ state

  refused_not : (refusal : Refusal) → a.outcome ≡ outcomes.Refused refusal → ⊥
  refused_not refusal e = let f : outcomes.Delivered ≡ outcomes.Refused refusal = sym delivers ∙ e in cc

  told : (b : Response) → a ≡ b → a.outcome ≡ b.outcome
  told b e = ap (λ (k : Response). k.outcome) e

  not_dyn : h.kind ≡ IrDyn → ⊥
  not_dyn e = let f : IrDyn ≡ Other = sym e ∙ other in cc

  go : Case (Some r) s m h a x → Wanted
  go (renews content ir read p) = absurd (subst IsIr other ir)
  go (strays refusal none which f g) = absurd (refused_not refusal (told _ f))
  go (refuses refusal of_octets f g) = absurd (refused_not refusal (told _ f))
  go (checks q is p) = absurd (refused_not refusals.Check (told _ p.0))
  go (lows q is low p) = absurd (refused_not refusals.StateTooLow (told _ p.0))
  go (restores q also held f g d is kind was says p) = absurd (not_dyn kind)
  go (refreshes q also held before w d is kind was says p) = absurd (not_dyn kind)
  go (normal q is kind was p) = absurd (let e = full q Plain is was in cc)
  go (promotes q also held f g v is kind was judges p) = absurd (let e = full q _ is was in cc)
  go (updates q also held before w v is kind was judges p) =
      let e : FullContext also held before w ≡ FullContext fixed reference previous window = full q _ is was in
      let fixed_is : also ≡ fixed = cc in
      let reference_is : held ≡ reference = cc in
      let judged = subst (λ (k : Reference). Judges fixed (full_tries (limits s) (m - q.accepted) k before) (said_under h k) (Ok v)) reference_is
      (subst (λ (f : Static). Judges f (full_tries (limits s) (m - q.accepted) held before) (said_under h held) (Ok v)) fixed_is judges) in
      let (content_is, fits) = one_try (limits s) (m - q.accepted) h fixed reference before c v read long judged in
      (v.header, fits, p.0 ∙ ap (λ feedback. delivered v.header.octets v.content.payload feedback) (nothing_sent s.mode h) ∙ ap (λ (k : Content). delivered v.header.octets k.payload None) content_is)

-- ---- The flags of an IR-DYN

-- bit 4 of the octet that has RX
rx_is : (padding rx : Bool) → (0x80 + flag padding 0x20 + flag rx 0x10) / 16 % 2 ≡ 0 → rx ≡ false
rx_is true true e = absurd (let f : 1 ≡ 0 = e in omega arith)
rx_is false true e = absurd (let f : 1 ≡ 0 = e in omega arith)
rx_is padding false e = refl

given_keeps : (rx : Bool) (kept : Bool × Option ℕ) (moving : Dynamic) (given : List ℕ) → SpellsGiven rx (kept_values kept.0 kept.1) moving.extension moving.stride given → rx ≡ false
    → (moving.extension ≡ kept.0) × (moving.stride ≡ kept.1)
given_keeps true kept moving given spells e = absurd (let f : true ≡ false = e in cc)
given_keeps false kept moving given spells e = (spells.1, spells.2)

-- the octet stands where it is looked for
rx_octet : (h : Header) (kept : Bool × Option ℕ) (d : DynContent) (text : IsIrDynText h 1 (kept_values kept.0 kept.1) d)
    → get_or h.rest 10 0 ≡ 0x80 + flag d.moving.padding 0x20 + flag text.spells_dynamic.spells_rtp.rx 0x10
rx_octet h kept d text =
    let dynamic = text.spells_dynamic in
    let rtp = dynamic.spells_rtp in
    ap (λ t. get_or t 10 0) text.whole ∙ ap (λ chain. get_or (1 ∷ check_of (cover h text.chain) ∷ chain ++ d.payload) 10 0) dynamic.whole
    ∙ ap (λ ip. get_or (1 ∷ check_of (cover h text.chain) ∷ (ip ++ (word d.moving.udp_sum ++ dynamic.rtp)) ++ d.payload) 10 0) dynamic.spells_ip.whole
    ∙ ap (λ r. get_or (1 ∷ check_of (cover h text.chain)
    ∷ ((d.moving.tos ∷ d.moving.ttl ∷ word d.moving.id ++ (flag d.moving.df 0x80 + flag d.moving.rnd 0x40 + flag d.moving.nbo 0x20 + dynamic.spells_ip.ignored) ∷ 0 ∷ [])
    ++ (word d.moving.udp_sum ++ r)) ++ d.payload) 10 0) rtp.whole

dyn_keeps : (h : Header) (held : Reference) (d : DynContent) → h.kind ≡ IrDyn → All IsOctet h.rest → get_or h.rest 10 0 / 16 % 2 ≡ 0 → dyn_said h (Some held) ≡ Ok d
    → (d.moving.extension ≡ held.moving.extension) × (d.moving.stride ≡ held.moving.stride)
dyn_keeps h held d kind all rx read =
    let kept : Bool × Option ℕ = kept_by (Some held) in
    let text = (dyn_text h 1 (kept_values kept.0 kept.1) d (subst IsIrDyn (sym kind) tt) (omega arith) all read).0 in
    let rtp = text.spells_dynamic.spells_rtp in
    given_keeps rtp.rx kept d.moving rtp.given rtp.spells_given (rx_is d.moving.padding rtp.rx (sym (ap (λ n. n / 16 % 2) (rx_octet h kept d text)) ∙ rx))

pub keeps_flags : KeepsFlags
keeps_flags r after fixed also held reference previous window s m h a holds counted dyn all rx step delivers left = go (step_case (Some r) s m h a (Some after) step) where
  Wanted : Type 0
  Wanted = (reference.moving.extension ≡ held.moving.extension) × (reference.moving.stride ≡ held.moving.stride)

  here : counting s m (Some r) ≡ Some r
  here = ap (λ b. if b then Some r else None) counted

  same : (q : Record) → counting s m (Some r) ≡ Some q → q ≡ r
  same q is = some_is q r (sym is ∙ here)

  refused_not : (refusal : Refusal) → a.outcome ≡ outcomes.Refused refusal → ⊥
  refused_not refusal e = let f : outcomes.Delivered ≡ outcomes.Refused refusal = sym delivers ∙ e in cc

  told : (b : Response) → a ≡ b → a.outcome ≡ b.outcome
  told b e = ap (λ (k : Response). k.outcome) e

  not_other : h.kind ≡ Other → ⊥
  not_other e = let f : Other ≡ IrDyn = sym e ∙ dyn in cc

  -- what the packet said is kept
  keeps : (d : DynContent) (of : Static) (w : List Bool) → dyn_said h (Some held) ≡ Ok d → Some after ≡ Some (record { accepted = m; state = FullContext of (first_reference d.moving) None w }) → Wanted
  keeps d of w read e =
      let is : FullContext of (first_reference d.moving) None w ≡ FullContext also reference previous window = sym (left_is after m _ e) ∙ left in
      let next : first_reference d.moving ≡ reference = cc in
      let (extension, stride) = dyn_keeps h held d dyn all rx read in
      (sym (ap (λ (k : Reference). k.moving.extension) next) ∙ extension, sym (ap (λ (k : Reference). k.moving.stride) next) ∙ stride)

  -- the reference that the record holds
  holds_by : (q : Record) (st : State) → counting s m (Some r) ≡ Some q → q.state ≡ st → Holds st fixed held
  holds_by q st is e = subst (λ (k : State). Holds k fixed held) (sym (ap (λ (k : Record). k.state) (same q is)) ∙ e) holds

  go : Case (Some r) s m h a (Some after) → Wanted
  go (renews content ir read p) = absurd (subst IsIr dyn ir)
  go (strays refusal none which f g) = absurd (refused_not refusal (told _ f))
  go (refuses refusal of_octets f g) = absurd (refused_not refusal (told _ f))
  go (checks q is p) = absurd (refused_not refusals.Check (told _ p.0))
  go (lows q is low p) = absurd (refused_not refusals.StateTooLow (told _ p.0))
  go (restores q of before f g d is kind was says (octets, o, p)) =
      keeps d of [] (subst (λ k. dyn_said h k ≡ Ok d) (holds_by q (StaticContext of before f g) is was).1 says) p.1
  go (refreshes q of before other w d is kind was says (octets, o, p)) =
      keeps d of (and_outcome false w) (subst (λ k. dyn_said h (Some k) ≡ Ok d) (holds_by q (FullContext of before other w) is was).1 says) p.1
  go (normal q is kind was p) = absurd (not_other kind)
  go (promotes q of before f g v is kind was judges p) = absurd (not_other kind)
  go (updates q of before other w v is kind was judges p) = absurd (not_other kind)

-- ---- What is lent

saves_none : (saved : Option (ℕ × ℕ)) → saved ≡ None → (is_some saved ≡ true) ↔ (TooLow ≡ Update)
saves_none saved e = (λ f. absurd (let g : false ≡ true = sym (ap is_some e) ∙ f in cc), λ f. absurd (let g : TooLow ≡ Update = f in cc))

pub saves_by_reference : SavesByReference
saves_by_reference Plain saved e = (λ _. e, λ other. absurd (other refl))
saves_by_reference (NoContext nacked) saved e = (λ f. absurd cc, λ _. saves_none saved e)
saves_by_reference (StaticContext fixed None first second) saved e = (λ f. absurd cc, λ _. saves_none saved e)
saves_by_reference (StaticContext fixed (Some r) first second) saved (registers, e, are) = (λ f. absurd cc, λ _. (λ _. refl, λ _. ap is_some e))
saves_by_reference (FullContext fixed r previous window) saved (registers, e, are) = (λ f. absurd cc, λ _. (λ _. refl, λ _. ap is_some e))

-- ---- What is not refused means one header

form_below : (refusal : FormRefusal) → number_of (refusal_of (fault_of_form refusal)) ≤ 26
form_below refusal = search rules

-- no refusal of 10 to 27
abbrev IsFree : Response → Type 0
IsFree a = (refusal : Refusal) → a.outcome ≡ outcomes.Refused refusal → 27 < number_of refusal

abbrev IsFreeVerdict : Result Acceptance Fault → Type 0
IsFreeVerdict (Ok v) = Unit {0}
IsFreeVerdict (Err fault) = 27 < number_of (refusal_of fault)

module _ (s : Settings) (m : ℕ) (h : Header) where
  ends_free : (r : Record) (fault : Fault) (a : Response) (x : Option Record) → Gives s h (ends (arrival s m h) (Some r) (Some r) fault) a x → IsFree a → 27 < number_of (refusal_of fault)
  ends_free r (Refused refusal) a x p free = free refusal (ap (λ (k : Response). k.outcome) p.0)
  ends_free r Unfit a x p free = free refusals.Check (ap (λ (k : Response). k.outcome) p.0)

  accepts_free : (r : Record) (state : Acceptance → State) (due : Acceptance → Due) (verdict : Result Acceptance Fault) (a : Response) (x : Option Record)
      → Gives s h (settled (arrival s m h) r state due verdict) a x → IsFree a → IsFreeVerdict verdict
  accepts_free r state due (Ok v) a x p free = tt
  accepts_free r state due (Err fault) a x p free = ends_free r fault a x p free

-- what is read, if it isn't refused
read_free : (fixed : Static) (tries : Content → List Try) (read : Result Content FormRefusal) (verdict : Result Acceptance Fault) → Judges fixed tries read verdict → IsFreeVerdict verdict
    → (c : Content) × (read ≡ Ok c) × (length c.payload ≤ longest_payload)
read_free fixed tries (Err refusal) verdict e free = absurd (let low = form_below refusal in let high : 27 < number_of (refusal_of (fault_of_form refusal)) = subst IsFreeVerdict e free in omega arith)
read_free fixed tries (Ok c) verdict p free = go (nat_lt longest_payload (length c.payload)) refl p where
  few : nat_lt longest_payload (length c.payload) ≡ false → length c.payload ≤ longest_payload
  few e = grind (arith, nat_tests)

  go : (long : Bool) → nat_lt longest_payload (length c.payload) ≡ long → VerdictUnless long fixed c (tries c) verdict → (k : Content) × (let x : Result Content FormRefusal = Ok c in x ≡ Ok k) × (length k.payload ≤ longest_payload)
  go true is e = absurd (let high : 27 < 26 = subst IsFreeVerdict e free in omega arith)
  go false is p = (c, refl, few is)

module _ (s : Settings) (m : ℕ) (h : Header) where
  means_free : (r : Record) (fixed : Static) (reference : Reference) (t : Trying) (a : Response) (x : Option Record) → IsGoodStatic fixed
      → All IsOctet h.rest → IsFree a → Answers s h (Tried (arrival s m h) r fixed reference t) a x
      → (c : Content) × (said_under h reference ≡ Ok c) × ((shift : ℕ) → ExactlyOne (Explains fixed reference shift c))
  means_free r fixed reference t a x good all free (ending, (verdict, judges, f), p) =
      let (c, read, few) = read_free fixed t.tries (said_under h reference) verdict judges (accepts_free s m h r t.state t.due verdict a x (gives s h ending _ a x f p) free) in
      let content = subst (λ said. IfOk said (IsGoodContent h.first reference.carries_sum (is_some reference.moving.stride))) read (form_reads h reference all) in
      (c, read, λ shift. means_one_header h.first reference.carries_sum (is_some reference.moving.stride) fixed reference shift c good content few)

pub means_one_unrefused : MeansOneUnrefused
unfolding LoneStep
means_one_unrefused r fixed reference s m h a x good holds counted other all step free = by r.accepted r.state good.state holds turned where
  Meant : Static → Reference → Type 0
  Meant part held = (c : Content) × (said_under h held ≡ Ok c) × ((shift : ℕ) → ExactlyOne (Explains part held shift c))

  Under : HeadKind → Option Record → Type 0
  Under kind c = Answers s h (Steps kind c (Some r) (arrival s m h)) a x

  turned : Answers s h (Follows (rule r.state Other h.first) (arrival s m h) r) a x
  turned = subst (λ k. Under k (Some r)) other (subst (λ b. Under h.kind (if b then Some r else None)) counted step)

  of : (also : Static) (held : Reference) → also ≡ fixed → held ≡ reference → Meant also held → Meant fixed reference
  of also held e f p = subst (λ k. Meant fixed k) f (subst (λ k. Meant k held) e p)

  by : (t : ℕ) (state : State) → IsGoodState state → Holds state fixed reference
      → Answers s h (Follows (rule state Other h.first) (arrival s m h) (record { accepted = t; state = state })) a x
      → Meant fixed reference
  by t Plain fine is p = absurd is
  by t (NoContext nacked) fine is p = absurd is
  by t (StaticContext also None f g) fine is p = absurd (let e : None ≡ Some reference = is.1 in cc)
  by t (StaticContext also (Some held) f g) fine is p = which (nat_le 0xc0 h.first) p where
    which : (high : Bool) → Answers s h (Follows (if high then Update else TooLow) (arrival s m h) (record { accepted = t; state = StaticContext also (Some held) f g })) a x → Meant fixed reference
    which true p =
        of also held is.0 (let e : Some held ≡ Some reference = is.1 in cc) (means_free s m h (record { accepted = t; state = StaticContext also (Some held) f g }) also held (trying (λ c. static_tries held) (promoted also) acknowledged) a x fine.0 all free p)
    which false (ending, e, p) = absurd (let high : 27 < 27 = free refusals.StateTooLow (ap (λ (k : Response). k.outcome) (gives s h ending _ a x e p).0) in omega arith)
  by t (FullContext also held previous w) fine is p =
      of also held is.0 is.1 (means_free s m h (record { accepted = t; state = FullContext also held previous w }) also held (trying (full_tries (limits s) (m - t) held previous) (updated also held w) silent) a x fine.0 all free p)

-- A step from good values has one answer and one record after it.
use Rattle.std.proofs.Common.{◌≡◌, ℕ, ◌-◌, ◌≤◌, List, [], ◌∷◌, length, Bool, true, false, Option, Some, None, IfSome, refl, sym, ap, subst, ◌∙◌, arith}
use Rattle.std.specs.Prelude.{All, Result, Ok, Err, IfOk, is_some, nat_le, ◌==◌, if◌then◌else◌}
use Rattle.rohc_bits.specs.Bits.{IsOctet}
use Rattle.rohc_frame.specs.declared.header.HeadKind.{HeadKind}
use Rattle.rohc_frame.specs.declared.header.HeadKind.TheVariants.{Ir, IrDyn, Other}
use Rattle.rohc_frame.specs.Header.{Header}
use Rattle.rohc_header.specs.declared.fields.Static.{Static}
use Rattle.rohc_header.specs.declared.fields.Dynamic.{Dynamic}
use Rattle.rohc_bits.specs.Reading.{next_octet}
use Rattle.rohc_chain.specs.declared.refusal.ChainRefusal.{ChainRefusal}
use Rattle.rohc_chain.specs.declared.refusal.ChainRefusal.TheVariants as chains
use Rattle.rohc_chain.specs.Good.{IsGoodStatic, IsGoodDynamic, IsGoodStride}
use Rattle.rohc_chain.specs.Packets.{IrContent, IsIr, IsIrDyn, DynContent, kept_values, ir_at, longest_payload}
use Rattle.rohc_chain.specs.Packets as chain
use Rattle.rohc_chain.specs.Good as chain_good
use Rattle.rohc_chain.specs.Texts.{IsShort}
use Rattle.rohc_chain.proofs.TextLemmas.{ir_text, dyn_text}
use Rattle.rohc_chain.proofs.GoodLemmas.{ir_good, dyn_good}
use Rattle.rohc_forms.specs.declared.refusal.FormRefusal.{FormRefusal}
use Rattle.rohc_forms.specs.Content.{Content}
use Rattle.rohc_forms.specs.Good.{IsGoodContent}
use Rattle.rohc_forms.proofs.GoodLemmas.{says_good}
use Rattle.rohc_forms.proofs.SaysLemmas.{reads}
use Rattle.rohc_context.specs.declared.due.Due.TheVariants as dues
use Rattle.rohc_context.specs.declared.refusal.Refusal.TheVariants as refusals
use Rattle.rohc_context.specs.declared.settings.Settings.{Settings}
use Rattle.rohc_context.specs.NextReference.{first_reference}
use Rattle.rohc_context.specs.Record.{Reference, State, Plain, NoContext, StaticContext, FullContext, Record}
use Rattle.rohc_context.specs.Response.{Response, delivered}
use Rattle.rohc_context.specs.Good.{AreGoodValues, IsGoodReference, IsGoodRecord, IsGoodState}
use Rattle.rohc_context.specs.Window.{and_outcome}
use Rattle.rohc_context.specs.Due.{sent}
use Rattle.rohc_context.specs.Faults.{fault_of_chain}
use Rattle.rohc_context.specs.Outcomes.{Arrival, Ending, taken, refuses, ends}
use Rattle.rohc_context.specs.Renewal.{full_window, Delivers, Renewed, state_in, Renews}
use Rattle.rohc_context.specs.Refresh.{kept_by, dyn_said, PlainRefuses, RefreshesTo, Refreshes}
use Rattle.rohc_context.specs.Tries.{static_tries, full_tries}
use Rattle.rohc_context.specs.Update.{said_under, settled, promoted, updated, acknowledged, silent, Updates}
use Rattle.rohc_context.specs.Step.{Rule, Renew, Refresh, Update, TooLow, rule, counts_within, counting, Follows, Steps, arrival, LoneStep}
use Rattle.rohc_context.proofs.ExplainLemmas.{original_some, original_one}
use Rattle.rohc_context.proofs.TryLemmas.{judges_one, judges_some}
use Rattle.rohc_context.proofs.Cases.{Trying, trying, Tried}

-- ---- What the parts say is good

-- an IR of octets that is read says what is good, and no payload that is too long
pub ir_reads : (h : Header) (dynamic : Bool) (content : IrContent) → h.kind ≡ Ir dynamic → All IsOctet h.rest → ir_at h ≡ Ok content
    → chain_good.IsGoodContent content × IsShort content
ir_reads h dynamic content e all read =
    let is : IsIr h.kind = subst IsIr (sym e) tt in
    let text = ir_text h content is all read in
    (ir_good h content all text.0, text.1)

-- the same of an IR-DYN
pub dyn_reads : (h : Header) (reference : Option Reference) (d : DynContent) → h.kind ≡ IrDyn → All IsOctet h.rest → IsGoodStride (kept_by reference).1 → dyn_said h reference ≡ Ok d
    → IsGoodDynamic d.moving × (length d.payload ≤ longest_payload)
dyn_reads h reference d e all good read =
    let is : IsIrDyn h.kind = subst IsIrDyn (sym e) tt in
    let text = dyn_text h 1 (kept_values (kept_by reference).0 (kept_by reference).1) d is (omega arith) all read in
    ((dyn_good h 1 (kept_values (kept_by reference).0 (kept_by reference).1) d all good text.0).0, text.1)

-- and of a packet of kind Other
pub form_reads : (h : Header) (r : Reference) → All IsOctet h.rest → IfOk (said_under h r) (IsGoodContent h.first r.carries_sum (is_some r.moving.stride))
form_reads h r all = go (said_under h r) refl where
  go : (read : Result Content FormRefusal) → said_under h r ≡ read → IfOk read (IsGoodContent h.first r.carries_sum (is_some r.moving.stride))
  go (Err refusal) e = tt
  go (Ok c) e = says_good h r.moving.rnd r.carries_sum (is_some r.moving.stride) c all ((reads h r.moving.rnd r.carries_sum (is_some r.moving.stride) c).0 e)

-- profile 0x0000 refuses each IR-DYN
plain_refuses : (h : Header) → (refusal : ChainRefusal) × PlainRefuses h refusal
unfolding next_octet
plain_refuses h = go h.rest refl where
  judges : (octet : ℕ) (rest : List ℕ) (changes : Bool) → (octet == 1) ≡ changes → h.rest ≡ octet ∷ rest → (refusal : ChainRefusal) × PlainRefuses h refusal
  judges octet rest true e f = (chains.ProfileChange, rw (f, e) refl)
  judges octet rest false e f = (chains.Profile, rw (f, e) refl)

  go : (text : List ℕ) → h.rest ≡ text → (refusal : ChainRefusal) × PlainRefuses h refusal
  go [] e = (chains.Truncated, rw e refl)
  go (octet ∷ rest) e = judges octet rest (octet == 1) refl e

-- ---- Existence

-- an ending, by a relation
abbrev Some1 : (Ending → Type 0) → Type 0
Some1 P = (ending : Ending) × P ending

delivers_some : (a : Arrival) (fixed : Static) (moving : Dynamic) (payload : List ℕ) (window : List Bool) → IsGoodStatic fixed → length payload ≤ 65495
    → Some1 (Delivers a fixed moving payload window)
delivers_some a fixed moving payload window good few =
    let (octets, is) = original_some fixed moving (length payload) good few in
    (_, (octets, is, refl))

renewed_some : (a : Arrival) (state : Option State) (content : IrContent) → chain_good.IsGoodContent content → IsShort content → Some1 (Renewed a state content)
renewed_some a state (chain.Plain packet) good short = (_, refl)
renewed_some a state (chain.StaticOnly fixed) good short = (_, refl)
renewed_some a state (chain.Whole fixed moving payload) good short = delivers_some a fixed moving payload (full_window state) good.0 short

renews_some : (a : Arrival) (dynamic : Bool) (c before : Option Record) (read : Result IrContent ChainRefusal) → a.header.kind ≡ Ir dynamic → All IsOctet a.header.rest
    → ir_at a.header ≡ read → Some1 (Renews a c before read)
renews_some a dynamic c before (Ok content) is all e = let good = ir_reads a.header dynamic content is all e in renewed_some a (state_in c) content good.0 good.1
renews_some a dynamic c before (Err refusal) is all e = (_, refl)

refreshed_some : (a : Arrival) (r : Record) (fixed : Static) (reference : Option Reference) (window : List Bool) (read : Result DynContent ChainRefusal)
    → IsGoodStatic fixed → a.header.kind ≡ IrDyn → All IsOctet a.header.rest → IsGoodStride (kept_by reference).1 → dyn_said a.header reference ≡ read → Some1 (RefreshesTo a r fixed window read)
refreshed_some a r fixed reference window (Err refusal) good is all stride e = (_, refl)
refreshed_some a r fixed reference window (Ok d) good is all stride e = delivers_some a fixed d.moving d.payload window good (dyn_reads a.header reference d is all stride e).1

-- the stride of a good reference, or of none
pub stride_good : (reference : Option Reference) → IfSome reference IsGoodReference → IsGoodStride (kept_by reference).1
stride_good None good = tt
stride_good (Some r) good = good.moving.stride

tried_some : (a : Arrival) (r : Record) (fixed : Static) (reference : Reference) (t : Trying) → IsGoodStatic fixed → All IsOctet a.header.rest → Some1 (Tried a r fixed reference t)
tried_some a r fixed reference t good all =
    let (verdict, judged) = judges_some a.header.first reference.carries_sum (is_some reference.moving.stride) fixed t.tries (said_under a.header reference) good (form_reads a.header reference all) in
    (_, (verdict, judged, refl))

-- by the rule of each state, for an IR-DYN and a packet of kind Other
dyn_some : (a : Arrival) (t : ℕ) (state : State) → IsGoodState state → a.header.kind ≡ IrDyn → All IsOctet a.header.rest
    → Some1 (Follows (rule state IrDyn a.header.first) a (record { accepted = t; state = state }))
dyn_some a t Plain good is all = let (refusal, refuses) = plain_refuses a.header in (_, (refusal, refuses, refl))
dyn_some a t (NoContext nacked) good is all = (_, refl)
dyn_some a t (StaticContext fixed reference f g) good is all =
    refreshed_some a (record { accepted = t; state = StaticContext fixed reference f g }) fixed reference [] (dyn_said a.header reference) good.0 is all (stride_good reference good.1) refl
dyn_some a t (FullContext fixed reference previous w) good is all =
    refreshed_some a (record { accepted = t; state = FullContext fixed reference previous w }) fixed (Some reference) (and_outcome false w) (dyn_said a.header (Some reference)) good.0 is all good.1.moving.stride refl

other_some : (a : Arrival) (t : ℕ) (state : State) → IsGoodState state → All IsOctet a.header.rest
    → Some1 (Follows (rule state Other a.header.first) a (record { accepted = t; state = state }))
other_some a t Plain good all = (_, refl)
other_some a t (NoContext nacked) good all = (_, refl)
other_some a t (StaticContext fixed None f g) good all = (_, refl)
other_some a t (StaticContext fixed (Some reference) f g) good all = which (nat_le 0xc0 a.header.first) where
  which : (high : Bool) → Some1 (Follows (if high then Update else TooLow) a (record { accepted = t; state = StaticContext fixed (Some reference) f g }))
  which true = tried_some a (record { accepted = t; state = StaticContext fixed (Some reference) f g }) fixed reference (trying (λ c. static_tries reference) (promoted fixed) acknowledged) good.0 all
  which false = (_, refl)
other_some a t (FullContext fixed reference previous w) good all =
    tried_some a (record { accepted = t; state = FullContext fixed reference previous w }) fixed reference (trying (full_tries a.limits (a.moment - t) reference previous) (updated fixed reference w) silent) good.0 all

steps_some : (a : Arrival) (kind : HeadKind) (c before : Option Record) → a.header.kind ≡ kind → IfSome c IsGoodRecord → All IsOctet a.header.rest → Some1 (Steps kind c before a)
steps_some a (Ir dynamic) None before is good all = renews_some a dynamic None before (ir_at a.header) is all refl
steps_some a (Ir dynamic) (Some r) before is good all = renews_some a dynamic (Some r) (Some r) (ir_at a.header) is all refl
steps_some a IrDyn None before is good all = (_, refl)
steps_some a Other None before is good all = (_, refl)
steps_some a IrDyn (Some r) before is good all = dyn_some a r.accepted r.state good.state is all
steps_some a Other (Some r) before is good all = other_some a r.accepted r.state good.state all

-- the record that counts is the record before, where there is one
pub counting_holds : (P : Record → Type 0) (s : Settings) (m : ℕ) (before : Option Record) → IfSome before P → IfSome (counting s m before) P
counting_holds P s m None holds = tt
counting_holds P s m (Some r) holds = which (counts_within s.idle_ms m r) where
  which : (b : Bool) → IfSome (if b then Some r else None) P
  which true = holds
  which false = tt

pub step_some : (before : Option Record) (s : Settings) (m : ℕ) (h : Header) → AreGoodValues before s m h
    → (response : Response) × (next : Option Record) × LoneStep before s m h response next
unfolding LoneStep
step_some before s m h good =
    let (ending, steps) = steps_some (arrival s m h) h.kind (counting s m before) before refl (counting_holds IsGoodRecord s m before good.record_before) good.header.rest in
    (_, _, (ending, steps, (refl, refl)))

-- ---- Uniqueness

-- two refusals of one text are one
err_is : (a b : ChainRefusal) → (let x : Result (ℕ × List ℕ) ChainRefusal = Err a in x) ≡ Err b → a ≡ b
err_is a b e = cc

module _ (a : Arrival) where
  delivers_one : (fixed : Static) (moving : Dynamic) (payload : List ℕ) (window : List Bool) (x y : Ending) → Delivers a fixed moving payload window x → Delivers a fixed moving payload window y → x ≡ y
  delivers_one fixed moving payload window x y (o, is, e) (p, also, f) =
      e ∙ ap (λ octets. taken a (FullContext fixed (first_reference moving) None window) (delivered octets payload None) (dues.Ack moving.sn)) (original_one fixed moving (length payload) o p is also) ∙ sym f

  renewed_one : (state : Option State) (content : IrContent) (x y : Ending) → Renewed a state content x → Renewed a state content y → x ≡ y
  renewed_one state (chain.Plain packet) x y p q = p ∙ sym q
  renewed_one state (chain.StaticOnly fixed) x y p q = p ∙ sym q
  renewed_one state (chain.Whole fixed moving payload) x y p q = delivers_one fixed moving payload (full_window state) x y p q

  renews_one : (c before : Option Record) (read : Result IrContent ChainRefusal) (x y : Ending) → Renews a c before read x → Renews a c before read y → x ≡ y
  renews_one c before (Ok content) x y p q = renewed_one (state_in c) content x y p q
  renews_one c before (Err refusal) x y p q = p ∙ sym q

  refreshed_one : (r : Record) (fixed : Static) (window : List Bool) (read : Result DynContent ChainRefusal) (x y : Ending) → RefreshesTo a r fixed window read x → RefreshesTo a r fixed window read y → x ≡ y
  refreshed_one r fixed window (Err refusal) x y p q = p ∙ sym q
  refreshed_one r fixed window (Ok d) x y p q = delivers_one fixed d.moving d.payload window x y p q

  refreshes_one : (r : Record) (state : State) (x y : Ending) → Refreshes a r state x → Refreshes a r state y → x ≡ y
  refreshes_one r Plain x y (refusal, e, p) (other, f, q) = p ∙ ap (λ k. ends a (Some r) (Some r) (fault_of_chain k)) (err_is refusal other (sym e ∙ f)) ∙ sym q
  refreshes_one r (NoContext nacked) x y p q = absurd p
  refreshes_one r (StaticContext fixed reference f g) x y p q = refreshed_one r fixed [] (dyn_said a.header reference) x y p q
  refreshes_one r (FullContext fixed reference previous w) x y p q = refreshed_one r fixed (and_outcome false w) (dyn_said a.header (Some reference)) x y p q

  tried_one : (r : Record) (fixed : Static) (reference : Reference) (t : Trying) (x y : Ending) → All IsOctet a.header.rest → Tried a r fixed reference t x → Tried a r fixed reference t y → x ≡ y
  tried_one r fixed reference t x y all (v, judged, p) (w, also, q) =
      p ∙ ap (settled a r t.state t.due) (judges_one a.header.first reference.carries_sum (is_some reference.moving.stride) fixed t.tries (said_under a.header reference) v w (form_reads a.header reference all) judged also)
      ∙ sym q

  updates_one : (r : Record) (state : State) (x y : Ending) → All IsOctet a.header.rest → Updates a r state x → Updates a r state y → x ≡ y
  updates_one r Plain x y all p q = p ∙ sym q
  updates_one r (NoContext nacked) x y all p q = absurd p
  updates_one r (StaticContext fixed None f g) x y all p q = absurd p
  updates_one r (StaticContext fixed (Some reference) f g) x y all p q =
      tried_one r fixed reference (trying (λ c. static_tries reference) (promoted fixed) acknowledged) x y all p q
  updates_one r (FullContext fixed reference previous w) x y all p q =
      tried_one r fixed reference (trying (full_tries a.limits (a.moment - r.accepted) reference previous) (updated fixed reference w) silent) x y all p q

  follows_one : (r : Record) (k : Rule) (x y : Ending) → All IsOctet a.header.rest → Follows k a r x → Follows k a r y → x ≡ y
  follows_one r Renew x y all p q = renews_one (Some r) (Some r) (ir_at a.header) x y p q
  follows_one r Refresh x y all p q = refreshes_one r r.state x y p q
  follows_one r Update x y all p q = updates_one r r.state x y all p q
  follows_one r TooLow x y all p q = p ∙ sym q

  steps_one : (kind : HeadKind) (c before : Option Record) (x y : Ending) → All IsOctet a.header.rest → Steps kind c before a x → Steps kind c before a y → x ≡ y
  steps_one kind (Some r) before x y all p q = follows_one r (rule r.state kind a.header.first) x y all p q
  steps_one (Ir dynamic) None before x y all p q = renews_one None before (ir_at a.header) x y p q
  steps_one IrDyn None before x y all p q = p ∙ sym q
  steps_one Other None before x y all p q = p ∙ sym q

pub step_one : (before : Option Record) (s : Settings) (m : ℕ) (h : Header) (a b : Response) (x y : Option Record) → All IsOctet h.rest
    → LoneStep before s m h a x → LoneStep before s m h b y → (a ≡ b) × (x ≡ y)
unfolding LoneStep
step_one before s m h a b x y all (e, p, (f, g)) (k, q, (l, n)) =
    let same = steps_one (arrival s m h) h.kind (counting s m before) before e k all p q in
    (f ∙ ap (λ (ending : Ending). record ending.answer { feedback = sent s.mode h ending.due }) same ∙ sym l, g ∙ ap (λ (ending : Ending). ending.after) same ∙ sym n)

-- ---- From none a record comes from an IR alone

pub step_begins : (s : Settings) (m : ℕ) (h : Header) (response : Response) (r : Record) → LoneStep None s m h response (Some r) → (dynamic : Bool) × (h.kind ≡ Ir dynamic)
unfolding LoneStep
step_begins s m h response r (ending, steps, (f, g)) = go h.kind steps where
  none : ending ≡ refuses refusals.NoContext None → ⊥
  none e = let is : Some r ≡ None = g ∙ ap (λ (k : Ending). k.after) e in cc

  go : (kind : HeadKind) → Steps kind None None (arrival s m h) ending → (dynamic : Bool) × (kind ≡ Ir dynamic)
  go (Ir dynamic) e = (dynamic, refl)
  go IrDyn e = absurd (none e)
  go Other e = absurd (none e)

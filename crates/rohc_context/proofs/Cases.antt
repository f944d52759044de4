-- The ways in which an arrival ends. Every step is one of them; a law of the step goes by these cases.
use Rattle.std.proofs.Common.{◌≡◌, ℕ, ◌-◌, ◌⊎◌, inl, inr, List, [], ◌∷◌, length, Bool, true, false, not, ◌&&◌, ◌||◌, Option, Some, None, refl, sym, ap, subst, ◌∙◌, rules}
use Rattle.std.specs.Prelude.{Result, Ok, Err, nat_lt, nat_le, if◌then◌else◌}
use Rattle.rohc_frame.specs.declared.header.HeadKind.{HeadKind}
use Rattle.rohc_frame.specs.declared.header.HeadKind.TheVariants.{Ir, IrDyn, Other}
use Rattle.rohc_frame.specs.Header.{Header, IsIr}
use Rattle.rohc_header.specs.declared.fields.Static.{Static}
use Rattle.rohc_header.specs.declared.fields.Dynamic.{Dynamic}
use Rattle.rohc_header.specs.Original.{IsOriginal, longest_payload}
use Rattle.rohc_chain.specs.declared.refusal.ChainRefusal.{ChainRefusal}
use Rattle.rohc_chain.specs.Packets.{IrContent, DynContent, ir_at}
use Rattle.rohc_forms.specs.declared.refusal.FormRefusal.{FormRefusal}
use Rattle.rohc_forms.specs.Content.{Content}
use Rattle.rohc_context.specs.declared.due.Due.{Due}
use Rattle.rohc_context.specs.declared.due.Due.TheVariants as dues
use Rattle.rohc_context.specs.declared.fault.Fault.{Fault}
use Rattle.rohc_context.specs.declared.fault.Fault.TheVariants.{Unfit, Refused}
use Rattle.rohc_context.specs.declared.refusal.Refusal.{Refusal}
use Rattle.rohc_context.specs.declared.refusal.Refusal.TheVariants as refusals
use Rattle.rohc_context.specs.declared.settings.Settings.{Settings}
use Rattle.rohc_context.specs.Refusal.{Chain, Form, Context, is_found_by}
use Rattle.rohc_context.specs.Record.{Reference, State, Plain, NoContext, StaticContext, FullContext, Record}
use Rattle.rohc_context.specs.Window.{and_outcome}
use Rattle.rohc_context.specs.Response.{Response, delivered, failed, refused}
use Rattle.rohc_context.specs.Due.{sent}
use Rattle.rohc_context.specs.Faults.{fault_of_chain, fault_of_form}
use Rattle.rohc_context.specs.Failures.{after_check, after_low_state}
use Rattle.rohc_context.specs.Outcomes.{Arrival, Ending, taken, fails, ends}
use Rattle.rohc_context.specs.Outcomes as outcomes
use Rattle.rohc_context.specs.Settings.{limits}
use Rattle.rohc_context.specs.NextReference.{first_reference}
use Rattle.rohc_context.specs.Renewal.{Renewed, state_in, Renews}
use Rattle.rohc_context.specs.Refresh.{dyn_said, RefreshesTo}
use Rattle.rohc_context.specs.Tries.{Try, Acceptance, Verdict, static_tries, full_tries}
use Rattle.rohc_context.specs.Update.{said_under, VerdictUnless, Judges, settled, promoted, updated, acknowledged, silent}
use Rattle.rohc_context.proofs.Common.{nothing_sent, gives}
use Rattle.rohc_context.specs.Step.{Update, TooLow, rule, counts_within, counting, Follows, Steps, Gives, Answers, arrival, LoneStep}

-- a refusal for what the octets say; no state and no lack of memory leads to it
abbrev pub is_of_octets : Refusal → Bool
is_of_octets refusal = not (is_found_by Context refusal) && (is_found_by Chain refusal || is_found_by Form refusal)

-- the tries of a packet, and the state and the feedback that an acceptance leads to
pub record Trying : Type 0 where
  pub tries : Content → List Try
  pub state : Acceptance → State
  pub due : Acceptance → Due

abbrev pub trying : (Content → List Try) → (Acceptance → State) → (Acceptance → Due) → Trying
trying tries state due = record { tries = tries; state = state; due = due }

-- what the tries of a packet come to, and what follows
abbrev pub Tried : Arrival → Record → Static → Reference → Trying → Ending → Type 0
Tried a r fixed reference t ending = (verdict : Result Acceptance Fault) × Judges fixed t.tries (said_under a.header reference) verdict × (ending ≡ settled a r t.state t.due verdict)

-- the answer and the record where a rebuilt packet is delivered after an IR or an IR-DYN
abbrev pub Rebuilds : Settings → ℕ → Header → Static → Dynamic → (payload : List ℕ) → (window : List Bool) → Response → Option Record → Type 0
Rebuilds s m h fixed moving payload window a x = (octets : List ℕ) × IsOriginal fixed moving (length payload) octets
    × Gives s h (taken (arrival s m h) (FullContext fixed (first_reference moving) None window) (delivered octets payload None) (dues.Ack moving.sn)) a x

pub data Case (before : Option Record) (s : Settings) (m : ℕ) (h : Header) (a : Response) (x : Option Record) : Type 0 where
  renews : (content : IrContent) → IsIr h.kind → ir_at h ≡ Ok content → Answers s h (Renewed (arrival s m h) (state_in (counting s m before)) content) a x → Case before s m h a x
  strays : (refusal : Refusal) → counting s m before ≡ None → (refusal ≡ refusals.NoContext) ⊎ (refusal ≡ refusals.Check) → a ≡ refused refusal → x ≡ before → Case before s m h a x
  refuses : (refusal : Refusal) → is_of_octets refusal ≡ true → a ≡ refused refusal → x ≡ before → Case before s m h a x
  checks : (r : Record) → counting s m before ≡ Some r → Gives s h (fails r refusals.Check (after_check (limits s) m r.state)) a x → Case before s m h a x
  lows : (r : Record) → counting s m before ≡ Some r → rule r.state h.kind h.first ≡ TooLow → Gives s h (fails r refusals.StateTooLow (after_low_state (limits s) m r.state)) a x → Case before s m h a x
  restores : (r : Record) (fixed : Static) (reference : Option Reference) (first second : List Bool) (d : DynContent) → counting s m before ≡ Some r → h.kind ≡ IrDyn
      → r.state ≡ StaticContext fixed reference first second → dyn_said h reference ≡ Ok d → Rebuilds s m h fixed d.moving d.payload [] a x → Case before s m h a x
  refreshes : (r : Record) (fixed : Static) (reference : Reference) (previous : Option Reference) (window : List Bool) (d : DynContent) → counting s m before ≡ Some r → h.kind ≡ IrDyn
      → r.state ≡ FullContext fixed reference previous window → dyn_said h (Some reference) ≡ Ok d → Rebuilds s m h fixed d.moving d.payload (and_outcome false window) a x → Case before s m h a x
  normal : (r : Record) → counting s m before ≡ Some r → h.kind ≡ Other → r.state ≡ Plain → Gives s h (taken (arrival s m h) Plain (delivered (h.first ∷ []) h.rest None) dues.Nothing) a x → Case before s m h a x
  promotes : (r : Record) (fixed : Static) (reference : Reference) (first second : List Bool) (v : Acceptance) → counting s m before ≡ Some r → h.kind ≡ Other
      → r.state ≡ StaticContext fixed (Some reference) first second → Judges fixed (λ c. static_tries reference) (said_under h reference) (Ok v)
      → Gives s h (settled (arrival s m h) r (promoted fixed) acknowledged (Ok v)) a x → Case before s m h a x
  updates : (r : Record) (fixed : Static) (reference : Reference) (previous : Option Reference) (window : List Bool) (v : Acceptance) → counting s m before ≡ Some r → h.kind ≡ Other
      → r.state ≡ FullContext fixed reference previous window → Judges fixed (full_tries (limits s) (m - r.accepted) reference previous) (said_under h reference) (Ok v)
      → Gives s h (settled (arrival s m h) r (updated fixed reference window) silent (Ok v)) a x → Case before s m h a x

-- ---- The faults that octets lead to

abbrev is_fault_of_octets : Fault → Bool
is_fault_of_octets Unfit = true
is_fault_of_octets (Refused refusal) = is_of_octets refusal

of_chain : (refusal : ChainRefusal) → is_fault_of_octets (fault_of_chain refusal) ≡ true
of_chain refusal = search rules

of_form : (refusal : FormRefusal) → is_fault_of_octets (fault_of_form refusal) ≡ true
of_form refusal = search rules

-- a verdict's fault, if it has one, is one of them
abbrev IsVerdictOfOctets : Result Acceptance Fault → Type 0
IsVerdictOfOctets (Ok a) = Unit {0}
IsVerdictOfOctets (Err fault) = is_fault_of_octets fault ≡ true

of_verdict : (fixed : Static) (c : Content) (tries : List Try) (verdict : Result Acceptance Fault) → Verdict fixed c tries verdict → IsVerdictOfOctets verdict
of_verdict fixed c [] verdict p = subst IsVerdictOfOctets (sym p) refl
of_verdict fixed c (t ∷ more) verdict (inl (h, fits, e)) = subst IsVerdictOfOctets (sym e) tt
of_verdict fixed c (t ∷ more) verdict (inr (misses, rest)) = of_verdict fixed c more verdict rest

of_judged : (fixed : Static) (tries : Content → List Try) (read : Result Content FormRefusal) (verdict : Result Acceptance Fault) → Judges fixed tries read verdict → IsVerdictOfOctets verdict
of_judged fixed tries (Err refusal) verdict p = subst IsVerdictOfOctets (sym p) (of_form refusal)
of_judged fixed tries (Ok c) verdict p = unless (nat_lt longest_payload (length c.payload)) p where
  unless : (long : Bool) → VerdictUnless long fixed c (tries c) verdict → IsVerdictOfOctets verdict
  unless true p = subst IsVerdictOfOctets (sym p) refl
  unless false p = of_verdict fixed c (tries c) verdict p

-- ---- Every step is one of them

-- the record that counts is the record before
pub counting_is : (s : Settings) (m : ℕ) (before : Option Record) (r : Record) → counting s m before ≡ Some r → before ≡ Some r
counting_is s m None r e = e
counting_is s m (Some q) r e = which (counts_within s.idle_ms m q) e where
  which : (b : Bool) → (if b then Some q else None) ≡ Some r → Some q ≡ Some r
  which true e = e
  which false e = absurd (let f : None ≡ Some r = e in cc)

module _ (before : Option Record) (s : Settings) (m : ℕ) (h : Header) (a : Response) (x : Option Record) where
  -- an answer for which nothing is due
  quiet : (refusal : Refusal) → a ≡ failed refusal (sent s.mode h dues.Nothing) → a ≡ refused refusal
  quiet refusal e = e ∙ ap (failed refusal) (nothing_sent s.mode h)

  ends_case : (c : Option Record) → counting s m before ≡ c → (fault : Fault)
      → is_fault_of_octets fault ≡ true → Gives s h (ends (arrival s m h) c before fault) a x → Case before s m h a x
  ends_case None none (Refused refusal) said p = refuses refusal said (quiet refusal p.0) p.1
  ends_case None none Unfit said p = strays refusals.Check none (inr refl) (quiet refusals.Check p.0) p.1
  ends_case (Some r) is (Refused refusal) said p = refuses refusal said (quiet refusal p.0) p.1
  ends_case (Some r) is Unfit said p = checks r is p

  fails_case : (r : Record) → counting s m before ≡ Some r → (fault : Fault)
      → is_fault_of_octets fault ≡ true → Gives s h (ends (arrival s m h) (Some r) (Some r) fault) a x → Case before s m h a x
  fails_case r is (Refused refusal) said p = refuses refusal said (quiet refusal p.0) (p.1 ∙ sym (counting_is s m before r is))
  fails_case r is Unfit said p = checks r is p

  renews_case : (c : Option Record) → counting s m before ≡ c → IsIr h.kind
      → (read : Result IrContent ChainRefusal) → ir_at h ≡ read → Answers s h (Renews (arrival s m h) c before read) a x → Case before s m h a x
  renews_case c is ir (Ok content) e p = renews content ir e (subst (λ k. Answers s h (Renewed (arrival s m h) (state_in k) content) a x) (sym is) p)
  renews_case c is ir (Err refusal) e (ending, f, p) = ends_case c is (fault_of_chain refusal) (of_chain refusal) (gives s h ending _ a x f p)

  refreshes_to : (r : Record) → counting s m before ≡ Some r
      → (fixed : Static) (window : List Bool) (said : Result DynContent ChainRefusal)
      → ((d : DynContent) → said ≡ Ok d → Rebuilds s m h fixed d.moving d.payload window a x → Case before s m h a x)
      → (read : Result DynContent ChainRefusal) → said ≡ read → Answers s h (RefreshesTo (arrival s m h) r fixed window read) a x → Case before s m h a x
  refreshes_to r is fixed window said to (Err refusal) e (ending, f, p) = fails_case r is (fault_of_chain refusal) (of_chain refusal) (gives s h ending _ a x f p)
  refreshes_to r is fixed window said to (Ok d) e (ending, (octets, o, f), p) = to d e (octets, o, gives s h ending _ a x f p)

  dyn_case : (t : ℕ) (state : State) → counting s m before ≡ Some (record { accepted = t; state = state }) → h.kind ≡ IrDyn
      → Answers s h (Follows (rule state IrDyn h.first) (arrival s m h) (record { accepted = t; state = state })) a x → Case before s m h a x
  dyn_case t Plain is kind (ending, (refusal, said, f), p) = fails_case _ is (fault_of_chain refusal) (of_chain refusal) (gives s h ending _ a x f p)
  dyn_case t (NoContext nacked) is kind (ending, f, p) = lows _ is (ap (λ k. rule (NoContext nacked) k h.first) kind) (gives s h ending _ a x f p)
  dyn_case t (StaticContext fixed reference f g) is kind p =
      refreshes_to _ is fixed [] (dyn_said h reference) (λ d said q. restores _ fixed reference f g d is kind refl said q) (dyn_said h reference) refl p
  dyn_case t (FullContext fixed reference previous w) is kind p =
      refreshes_to _ is fixed (and_outcome false w) (dyn_said h (Some reference)) (λ d said q. refreshes _ fixed reference previous w d is kind refl said q)
      (dyn_said h (Some reference)) refl p

  tried_case : (r : Record) → counting s m before ≡ Some r → (fixed : Static) (reference : Reference) (t : Trying)
      → ((v : Acceptance) → Judges fixed t.tries (said_under h reference) (Ok v) → Gives s h (settled (arrival s m h) r t.state t.due (Ok v)) a x → Case before s m h a x)
      → Answers s h (Tried (arrival s m h) r fixed reference t) a x → Case before s m h a x
  tried_case r is fixed reference t to (ending, (Ok v, judges, f), p) = to v judges (gives s h ending _ a x f p)
  tried_case r is fixed reference t to (ending, (Err fault, judges, f), p) =
      fails_case r is fault (of_judged fixed t.tries (said_under h reference) (Err fault) judges) (gives s h ending _ a x f p)

  other_case : (t : ℕ) (state : State) → counting s m before ≡ Some (record { accepted = t; state = state }) → h.kind ≡ Other
      → Answers s h (Follows (rule state Other h.first) (arrival s m h) (record { accepted = t; state = state })) a x → Case before s m h a x
  other_case t Plain is kind (ending, f, p) = normal _ is kind refl (gives s h ending _ a x f p)
  other_case t (NoContext nacked) is kind (ending, f, p) = lows _ is (ap (λ k. rule (NoContext nacked) k h.first) kind) (gives s h ending _ a x f p)
  other_case t (StaticContext fixed None f g) is kind (ending, e, p) = lows _ is (ap (λ k. rule (StaticContext fixed None f g) k h.first) kind) (gives s h ending _ a x e p)
  other_case t (StaticContext fixed (Some reference) f g) is kind p = which (nat_le 0xc0 h.first) refl p where
    found : State
    found = StaticContext fixed (Some reference) f g

    which : (high : Bool) → nat_le 0xc0 h.first ≡ high → Answers s h (Follows (if high then Update else TooLow) (arrival s m h) (record { accepted = t; state = found })) a x
        → Case before s m h a x
    which true e p =
        tried_case _ is fixed reference (trying (λ c. static_tries reference) (promoted fixed) acknowledged) (λ v j q. promotes _ fixed reference f g v is kind refl j q) p
    which false e (ending, k, p) = lows _ is (ap (λ k. rule found k h.first) kind ∙ ap (λ b. if b then Update else TooLow) e) (gives s h ending _ a x k p)
  other_case t (FullContext fixed reference previous w) is kind p =
      tried_case _ is fixed reference (trying (full_tries (limits s) (m - t) reference previous) (updated fixed reference w) silent)
      (λ v j q. updates _ fixed reference previous w v is kind refl j q) p

  pub step_case : LoneStep before s m h a x → Case before s m h a x
  unfolding LoneStep
  step_case step = go h.kind refl (counting s m before) refl step where
    stray : counting s m before ≡ None → Answers s h (λ ending. ending ≡ outcomes.refuses refusals.NoContext before) a x → Case before s m h a x
    stray is (ending, f, p) = let q = gives s h ending _ a x f p in strays refusals.NoContext is (inl refl) (quiet refusals.NoContext q.0) q.1

    go : (kind : HeadKind) → h.kind ≡ kind → (c : Option Record) → counting s m before ≡ c → Answers s h (Steps kind c before (arrival s m h)) a x → Case before s m h a x
    go (Ir dynamic) e None is p = renews_case None is (subst IsIr (sym e) tt) (ir_at h) refl p
    go (Ir dynamic) e (Some r) is p =
        renews_case (Some r) is (subst IsIr (sym e) tt) (ir_at h) refl
        (subst (λ b. Answers s h (Renews (arrival s m h) (Some r) b (ir_at h)) a x) (sym (counting_is s m before r is)) p)
    go IrDyn e None is p = stray is p
    go Other e None is p = stray is p
    go IrDyn e (Some r) is p = dyn_case r.accepted r.state is e p
    go Other e (Some r) is p = other_case r.accepted r.state is e p

-- What windows count, and when a context falls.
use Rattle.std.proofs.Common.{◌≡◌, ℕ, zero, suc, ◌≤◌, ◌<◌, inl, inr, List, [], ◌∷◌, take, length, Bool, true, false, Option, Some, None, refl, sym, ap, subst, ◌∙◌, arith, rules}
use Rattle.std.specs.Prelude.{count_by, ◌↔◌, unwrap_or, if◌then◌else◌}
use Rattle.std.proofs.lemmas.Bool.{leb-true, leb-false}
use Rattle.std.proofs.lemmas.List.{take_all}
use Rattle.rohc_frame.specs.Header.{Header}
use Rattle.rohc_header.specs.declared.fields.Static.{Static}
use Rattle.rohc_chain.specs.Packets.{IrContent}
use Rattle.rohc_chain.specs.Packets as chain
use Rattle.rohc_context.specs.Settings.{limits}
use Rattle.rohc_context.proofs.Common.{gives}
use Rattle.rohc_context.specs.declared.due.Due.TheVariants as dues
use Rattle.rohc_context.specs.declared.refusal.Refusal.{Refusal}
use Rattle.rohc_context.specs.declared.refusal.Refusal.TheVariants as refusals
use Rattle.rohc_context.specs.declared.reply.Outcome.{Outcome}
use Rattle.rohc_context.specs.declared.reply.Outcome.TheVariants as outcomes
use Rattle.rohc_context.specs.declared.settings.Settings.{Settings}
use Rattle.rohc_context.specs.declared.standing.ContextState.TheVariants as states
use Rattle.rohc_context.specs.Good.{IsGoodState}
use Rattle.rohc_context.specs.Record.{Reference, State, Plain, NoContext, StaticContext, FullContext, Record}
use Rattle.rohc_context.specs.Window.{and_outcome, is_filled}
use Rattle.rohc_context.specs.Response.{Response}
use Rattle.rohc_context.specs.Failures.{leads_to, sn_of, after_check, after_low_state}
use Rattle.rohc_context.specs.Lent.{windows_in}
use Rattle.rohc_context.specs.Standing.{context_state_of}
use Rattle.rohc_context.specs.NextReference.{first_reference, next_reference, next_previous}
use Rattle.rohc_context.specs.Renewal.{full_window, static_windows, Renewed, state_in}
use Rattle.rohc_context.specs.Update.{promoted, updated}
use Rattle.rohc_context.specs.Step.{counts, counting, Answers, arrival, LoneStep}
use Rattle.rohc_context.specs.Counts.{marks, first_marks, failures, Adds, WindowsCount, FallsFromFull, FallsFromStatic}
use Rattle.rohc_context.proofs.Cases.{is_of_octets, Case, step_case, renews, strays, refuses, checks, lows, restores, refreshes, normal, promotes, updates}
use Rattle.rohc_context.proofs.RefusalLemmas.{step_checks, counts_not}

-- ---- Filled windows

take_twice : (n k : ℕ) (xs : List Bool) → n ≤ k → take n (take k xs) ≡ take n xs
take_twice zero k xs h = refl
take_twice (suc n) zero xs h = absurd (omega arith)
take_twice (suc n) (suc k) [] h = refl
take_twice (suc n) (suc k) (x ∷ xs) h = ap (λ l. x ∷ l) (take_twice n k xs (omega arith))

-- of the last 64 as of all, where n is 64 at most
failures_kept : (n : ℕ) (failure : Bool) (window : List Bool) → n ≤ 64 → failures n (and_outcome failure window) ≡ failures n (failure ∷ window)
unfolding and_outcome
failures_kept n failure window h = ap (λ l. count_by (λ f. f) l) (take_twice n 64 (failure ∷ window) h)

filled_by : (k n : ℕ) (window : List Bool) → n ≤ 64 → is_filled k n (and_outcome true window) ≡ true → k ≤ failures n (true ∷ window)
unfolding is_filled
filled_by k n window h e = subst (λ x. k ≤ x) (failures_kept n true window h) (leb-true k (failures n (and_outcome true window)) e)

unfilled_by : (k n : ℕ) (window : List Bool) → n ≤ 64 → is_filled k n (and_outcome true window) ≡ false → failures n (true ∷ window) < k
unfolding is_filled
unfilled_by k n window h e = subst (λ x. x < k) (failures_kept n true window h) (leb-false k (failures n (and_outcome true window)) e)

-- ---- What is added

marks_none : (refusal : Refusal) → is_of_octets refusal ≡ true → (marks (outcomes.Refused refusal) ≡ []) × (first_marks (outcomes.Refused refusal) ≡ [])
marks_none refusal e = search rules

all_kept : (window : List Bool) → length window ≤ 64 → window ≡ take 64 window
all_kept window few = sym (take_all 64 window few)

-- nothing is added where nothing changes
adds_nothing : (s : Settings) (outcome : Outcome) (state : State) → IsGoodState state → marks outcome ≡ [] → first_marks outcome ≡ [] → Adds s outcome state state
adds_nothing s outcome Plain good e f = tt
adds_nothing s outcome (NoContext nacked) good e f = tt
adds_nothing s outcome (StaticContext fixed reference first second) good e f = rw (e, f) (all_kept second good.3, inl (all_kept first good.2))
adds_nothing s outcome (FullContext fixed reference previous window) good e f = rw e (all_kept window good.3)

adds_plain : (s : Settings) (outcome : Outcome) (state : State) → Adds s outcome state Plain
adds_plain s outcome Plain = tt
adds_plain s outcome (NoContext nacked) = tt
adds_plain s outcome (StaticContext fixed reference first second) = tt
adds_plain s outcome (FullContext fixed reference previous window) = tt

adds_static : (s : Settings) (fixed : Static) (state : State) → Adds s outcomes.Stored state (StaticContext fixed None (static_windows (Some state)).0 (static_windows (Some state)).1)
unfolding and_outcome
adds_static s fixed Plain = refl
adds_static s fixed (NoContext nacked) = refl
adds_static s fixed (StaticContext also reference first second) = (refl, inl refl)
adds_static s fixed (FullContext also reference previous window) = refl

adds_full : (s : Settings) (fixed : Static) (reference : Reference) (state : State) → Adds s outcomes.Delivered state (FullContext fixed reference None (full_window (Some state)))
unfolding and_outcome
adds_full s fixed reference Plain = refl
adds_full s fixed reference (NoContext nacked) = refl
adds_full s fixed reference (StaticContext also held first second) = refl
adds_full s fixed reference (FullContext also held previous window) = refl

adds_update : (s : Settings) (fixed : Static) (reference next : Reference) (previous kept : Option Reference) (window : List Bool)
    → Adds s outcomes.Delivered (FullContext fixed reference previous window) (FullContext fixed next kept (and_outcome false window))
unfolding and_outcome
adds_update s fixed reference next previous kept window = refl

adds_check : (s : Settings) (m : ℕ) (state : State) → s.n1 ≤ 64 → Adds s (outcomes.Refused refusals.Check) state (after_check (limits s) m state).state
unfolding and_outcome
adds_check s m Plain most = tt
adds_check s m (NoContext nacked) most = tt
adds_check s m (FullContext fixed reference previous window) most = go (is_filled s.k1 s.n1 (and_outcome true window)) where
  go : (falls : Bool) → Adds s (outcomes.Refused refusals.Check) (FullContext fixed reference previous window)
      (if falls then leads_to (StaticContext fixed (Some reference) [] []) (dues.Nack (Some reference.moving.sn)) else leads_to (FullContext fixed reference previous (and_outcome true window)) dues.Nothing).state
  go true = refl
  go false = refl
adds_check s m (StaticContext fixed reference first second) most = go (is_filled s.k2 s.n2 (and_outcome true second)) (is_filled s.k1 s.n1 (and_outcome true first)) refl where
  go : (falls asks : Bool) → is_filled s.k1 s.n1 (and_outcome true first) ≡ asks → Adds s (outcomes.Refused refusals.Check) (StaticContext fixed reference first second)
      (if falls then leads_to (NoContext m) dues.StaticNack
      else if asks then leads_to (StaticContext fixed reference [] (and_outcome true second)) (dues.Nack (sn_of reference))
      else leads_to (StaticContext fixed reference (and_outcome true first) (and_outcome true second)) dues.Nothing).state
  go true asks e = tt
  go false true e = (refl, inr (refl, filled_by s.k1 s.n1 first most e))
  go false false e = (refl, inl refl)

adds_low : (s : Settings) (m : ℕ) (state : State) → s.n1 ≤ 64 → IsGoodState state → Adds s (outcomes.Refused refusals.StateTooLow) state (after_low_state (limits s) m state).state
unfolding and_outcome
adds_low s m Plain most good = tt
adds_low s m (NoContext nacked) most good = go _ where
  go : (due : Bool) → Adds s (outcomes.Refused refusals.StateTooLow) (NoContext nacked) (if due then leads_to (NoContext m) dues.StaticNack else leads_to (NoContext nacked) dues.Nothing).state
  go true = tt
  go false = tt
adds_low s m (FullContext fixed reference previous window) most good = all_kept window good.3
adds_low s m (StaticContext fixed reference first second) most good = go (is_filled s.k1 s.n1 (and_outcome true first)) refl where
  go : (asks : Bool) → is_filled s.k1 s.n1 (and_outcome true first) ≡ asks → Adds s (outcomes.Refused refusals.StateTooLow) (StaticContext fixed reference first second)
      (if asks then leads_to (StaticContext fixed reference [] second) (dues.Nack (sn_of reference)) else leads_to (StaticContext fixed reference (and_outcome true first) second) dues.Nothing).state
  go true e = (all_kept second good.3, inr (refl, filled_by s.k1 s.n1 first most e))
  go false e = (all_kept second good.3, inl refl)

-- ---- The law

some_is : (a b : Record) → Some a ≡ Some b → a ≡ b
some_is a b e = cc

-- the answer has this outcome, and the record after it this state
settles : (s : Settings) (outcome told : Outcome) (before : State) (after : Record) (m : ℕ) (state : State) → outcome ≡ told → Some after ≡ Some (record { accepted = m; state = state })
    → Adds s told before state → Adds s outcome before after.state
settles s outcome told before after m state e f adds =
    subst (λ o. Adds s o before after.state) (sym e) (subst (λ (r : Record). Adds s told before r.state) (sym (some_is after (record { accepted = m; state = state }) f)) adds)

told : (a b : Response) → a ≡ b → a.outcome ≡ b.outcome
told a b e = ap (λ (r : Response). r.outcome) e

renewed_adds : (s : Settings) (m : ℕ) (h : Header) (state : State) (content : IrContent) (a : Response) (after : Record)
    → Answers s h (Renewed (arrival s m h) (Some state) content) a (Some after) → Adds s a.outcome state after.state
renewed_adds s m h state (chain.Plain packet) a after (e, f, p) = settles s a.outcome a.outcome state after m Plain refl (gives s h e _ a (Some after) f p).1 (adds_plain s a.outcome state)
renewed_adds s m h state (chain.StaticOnly fixed) a after (e, f, p) =
    let q = gives s h e _ a (Some after) f p in
    settles s a.outcome outcomes.Stored state after m _ (told a _ q.0) q.1 (adds_static s fixed state)
renewed_adds s m h state (chain.Whole fixed moving payload) a after (e, (octets, is, f), p) =
    let q = gives s h e _ a (Some after) f p in
    settles s a.outcome outcomes.Delivered state after m _ (told a _ q.0) q.1 (adds_full s fixed _ state)

pub windows_count : WindowsCount
windows_count r after s m h a good settings counted step = go (step_case (Some r) s m h a (Some after) step) where
  most : s.n1 ≤ 64
  most = settings.k1.2

  here : counting s m (Some r) ≡ Some r
  here = ap (λ b. if b then Some r else None) counted

  same : (q : Record) → counting s m (Some r) ≡ Some q → q ≡ r
  same q is = some_is q r (sym is ∙ here)

  -- the state that was found is the record's
  found : (q : Record) (outcome : Outcome) (state left : State) → counting s m (Some r) ≡ Some q → q.state ≡ state → Adds s outcome state left → Adds s outcome r.state left
  found q outcome state left is e adds = subst (λ (st : State). Adds s outcome st left) (sym e ∙ ap (λ (k : Record). k.state) (same q is)) adds

  go : Case (Some r) s m h a (Some after) → Adds s a.outcome r.state after.state
  go (renews content ir read p) = renewed_adds s m h r.state content a after (subst (λ c. Answers s h (Renewed (arrival s m h) (state_in c) content) a (Some after)) here p)
  go (strays refusal none which f g) = absurd (counts_not s m (Some r) r none here)
  go (refuses refusal of_octets f g) =
      let none = marks_none refusal of_octets in
      settles s a.outcome (outcomes.Refused refusal) r.state after r.accepted r.state (told a _ f) g (adds_nothing s (outcomes.Refused refusal) r.state good.state none.0 none.1)
  go (checks q is p) =
      let left = (after_check (limits s) m q.state).state in
      settles s a.outcome (outcomes.Refused refusals.Check) r.state after q.accepted left (told a _ p.0) p.1 (found q (outcomes.Refused refusals.Check) q.state left is refl (adds_check s m q.state most))
  go (lows q is low p) =
      let fine : IsGoodState q.state = subst (λ (k : Record). IsGoodState k.state) (sym (same q is)) good.state in
      let left = (after_low_state (limits s) m q.state).state in
      settles s a.outcome (outcomes.Refused refusals.StateTooLow) r.state after q.accepted left (told a _ p.0) p.1
      (found q (outcomes.Refused refusals.StateTooLow) q.state left is refl (adds_low s m q.state most fine))
  go (restores q fixed reference f g d is kind e read (octets, o, p)) =
      settles s a.outcome outcomes.Delivered r.state after m (FullContext fixed (first_reference d.moving) None []) (told a _ p.0) p.1
      (found q outcomes.Delivered (StaticContext fixed reference f g) (FullContext fixed (first_reference d.moving) None []) is e refl)
  go (refreshes q fixed reference previous w d is kind e read (octets, o, p)) =
      let left : State = FullContext fixed (first_reference d.moving) None (and_outcome false w) in
      let state : State = FullContext fixed reference previous w in
      settles s a.outcome outcomes.Delivered r.state after m left (told a _ p.0) p.1 (found q outcomes.Delivered state left is e (adds_full s fixed (first_reference d.moving) state))
  go (normal q is kind e p) = settles s a.outcome a.outcome r.state after m Plain refl p.1 (adds_plain s a.outcome r.state)
  go (promotes q fixed reference f g v is kind e judges p) =
      settles s a.outcome outcomes.Delivered r.state after m (promoted fixed v) (told a _ p.0) p.1
      (found q outcomes.Delivered (StaticContext fixed (Some reference) f g) (promoted fixed v) is e refl)
  go (updates q fixed reference previous w v is kind e judges p) =
      settles s a.outcome outcomes.Delivered r.state after m (updated fixed reference w v) (told a _ p.0) p.1
      (found q outcomes.Delivered (FullContext fixed reference previous w) (updated fixed reference w v) is e
      (adds_update s fixed reference (next_reference v) previous (next_previous reference v) w))

-- ---- Falls

-- the record after a failed check
after_fails : (r after : Record) (s : Settings) (m : ℕ) (h : Header) (a : Response) → counts s m r ≡ true → LoneStep (Some r) s m h a (Some after)
    → a.outcome ≡ outcomes.Refused refusals.Check → after.state ≡ (after_check (limits s) m r.state).state
after_fails r after s m h a counted step e =
    let here : counting s m (Some r) ≡ Some r = ap (λ b. if b then Some r else None) counted in
    ap (λ (k : Record). k.state) (some_is after _ ((step_checks (Some r) s m h a (Some after) step e).1 r here).1)

pub falls_from_full : FallsFromFull
falls_from_full r after s m h a window settings counted state windows step e =
    subst (λ (st : State). (context_state_of st ≡ states.StaticContext) ↔ (s.k1 ≤ failures s.n1 (true ∷ window))) (sym (after_fails r after s m h a counted step e)) (go r.state state windows) where
      by : (fixed : Static) (reference : Reference) (previous : Option Reference) (w : List Bool) (falls : Bool) → is_filled s.k1 s.n1 (and_outcome true w) ≡ falls
          → (context_state_of (if falls then leads_to (StaticContext fixed (Some reference) [] []) (dues.Nack (Some reference.moving.sn)) else leads_to (FullContext fixed reference previous (and_outcome true w)) dues.Nothing).state
          ≡ states.StaticContext) ↔ (s.k1 ≤ failures s.n1 (true ∷ w))
      by fixed reference previous w true e = (λ _. filled_by s.k1 s.n1 w settings.k1.2 e, λ _. refl)
      by fixed reference previous w false e =
          (λ f. absurd (let g : states.FullContext ≡ states.StaticContext = f in cc), λ le. absurd (let less = unfilled_by s.k1 s.n1 w settings.k1.2 e in omega arith))

      go : (state : State) → context_state_of state ≡ states.FullContext → windows_in state ≡ Some (window, [])
          → (context_state_of (after_check (limits s) m state).state ≡ states.StaticContext) ↔ (s.k1 ≤ failures s.n1 (true ∷ window))
      go Plain e f = absurd (let g : None ≡ Some (window, []) = f in cc)
      go (NoContext nacked) e f = absurd (let g : None ≡ Some (window, []) = f in cc)
      go (StaticContext fixed reference first second) e f = absurd (let g : states.StaticContext ≡ states.FullContext = e in cc)
      go (FullContext fixed reference previous w) e f =
          let same : w ≡ window = ap (λ (o : Option (List Bool × List Bool)). (unwrap_or o ([], [])).0) f in
          subst (λ v. (context_state_of (after_check (limits s) m (FullContext fixed reference previous w)).state ≡ states.StaticContext) ↔ (s.k1 ≤ failures s.n1 (true ∷ v))) same
          (by fixed reference previous w (is_filled s.k1 s.n1 (and_outcome true w)) refl)

pub falls_from_static : FallsFromStatic
falls_from_static r after s m h a first second settings counted state windows step e =
    subst (λ (st : State). (context_state_of st ≡ states.NoContext) ↔ (s.k2 ≤ failures s.n2 (true ∷ second))) (sym (after_fails r after s m h a counted step e)) (go r.state state windows) where
      by : (fixed : Static) (reference : Option Reference) (f g : List Bool) (falls asks : Bool) → is_filled s.k2 s.n2 (and_outcome true g) ≡ falls
          → (context_state_of (if falls then leads_to (NoContext m) dues.StaticNack
          else if asks then leads_to (StaticContext fixed reference [] (and_outcome true g)) (dues.Nack (sn_of reference))
          else leads_to (StaticContext fixed reference (and_outcome true f) (and_outcome true g)) dues.Nothing).state
          ≡ states.NoContext) ↔ (s.k2 ≤ failures s.n2 (true ∷ g))
      by fixed reference f g true asks e = (λ _. filled_by s.k2 s.n2 g settings.k2.2 e, λ _. refl)
      by fixed reference f g false true e =
          (λ k. absurd (let l : states.StaticContext ≡ states.NoContext = k in cc), λ le. absurd (let less = unfilled_by s.k2 s.n2 g settings.k2.2 e in omega arith))
      by fixed reference f g false false e =
          (λ k. absurd (let l : states.StaticContext ≡ states.NoContext = k in cc), λ le. absurd (let less = unfilled_by s.k2 s.n2 g settings.k2.2 e in omega arith))

      go : (state : State) → context_state_of state ≡ states.StaticContext → windows_in state ≡ Some (first, second)
          → (context_state_of (after_check (limits s) m state).state ≡ states.NoContext) ↔ (s.k2 ≤ failures s.n2 (true ∷ second))
      go Plain e f = absurd (let g : None ≡ Some (first, second) = f in cc)
      go (NoContext nacked) e f = absurd (let g : None ≡ Some (first, second) = f in cc)
      go (FullContext fixed reference previous w) e f = absurd (let g : states.FullContext ≡ states.StaticContext = e in cc)
      go (StaticContext fixed reference f g) e k =
          let same : g ≡ second = ap (λ (o : Option (List Bool × List Bool)). (unwrap_or o ([], [])).1) k in
          subst (λ v. (context_state_of (after_check (limits s) m (StaticContext fixed reference f g)).state ≡ states.NoContext) ↔ (s.k2 ≤ failures s.n2 (true ∷ v))) same
          (by fixed reference f g (is_filled s.k2 s.n2 (and_outcome true g)) (is_filled s.k1 s.n1 (and_outcome true f)) refl)

-- The record after a step from good values is good.
use Rattle.std.proofs.Common.{◌≡◌, ℕ, ◌-◌, ◌<◌, ◌^◌, List, [], ◌∷◌, ◌++◌, length, Bool, true, false, Option, Some, None, IfSome, inl, inr, refl, sym, ap, subst, ◌∙◌, arith}
use Rattle.std.specs.Prelude.{All, Result, Ok, Err, IfOk, is_some, nat_lt, ◌&&◌, if◌then◌else◌, option_map}
use Rattle.std.proofs.lemmas.Bool.{eqb-true}
use Rattle.std.proofs.lemmas.List.{length-take}
use Rattle.rohc_bits.specs.Bits.{IsOctet}
use Rattle.rohc_frame.specs.declared.header.HeadKind.{HeadKind}
use Rattle.rohc_frame.specs.declared.header.HeadKind.TheVariants.{Ir, IrDyn, Other}
use Rattle.rohc_frame.specs.Header.{Header}
use Rattle.rohc_header.specs.declared.fields.Static.{Static}
use Rattle.rohc_header.specs.declared.fields.Dynamic.{Dynamic}
use Rattle.rohc_chain.specs.Good.{IsGoodStatic, IsGoodDynamic}
use Rattle.rohc_chain.specs.Packets.{IrContent, IsIr, ir_at}
use Rattle.rohc_chain.specs.Packets as chain
use Rattle.rohc_chain.specs.Good as chain_good
use Rattle.rohc_forms.specs.declared.refusal.FormRefusal.{FormRefusal}
use Rattle.rohc_forms.specs.Content.{Content}
use Rattle.rohc_forms.specs.Good.{IsGoodContent}
use Rattle.rohc_context.specs.Settings.{Limits, limits}
use Rattle.rohc_context.proofs.Common.{gives}
use Rattle.rohc_context.specs.declared.due.Due.TheVariants as dues
use Rattle.rohc_context.specs.declared.fault.Fault.{Fault}
use Rattle.rohc_context.specs.declared.settings.Settings.{Settings}
use Rattle.std.specs.Option.{ForSome}
use Rattle.rohc_checks.proofs.Division.{length-bits}
use Rattle.rohc_context.specs.declared.record.Context.{Context}
use Rattle.rohc_context.specs.declared.reference.Reference as saved
use Rattle.rohc_context.specs.declared.reference.Previous.{Previous}
use Rattle.rohc_context.specs.Previous.{fields_by, SharesNumbering}
use Rattle.rohc_context.specs.declared.state.State as code
use Rattle.rohc_context.specs.declared.state.State.TheVariants as states
use Rattle.rohc_context.specs.declared.window.Window.{Window}
use Rattle.rohc_context.specs.Saved.{IsKept}
use Rattle.rohc_context.specs.Record.{reference_of, previous_by, state_of, record_of, Reference, State, Plain, NoContext, StaticContext, FullContext, Record}
use Rattle.rohc_context.specs.Response.{Response}
use Rattle.rohc_context.specs.Window.{outcomes, and_outcome, is_filled}
use Rattle.rohc_context.specs.Good.{AreGoodValues, IsGoodReference, IsGoodPrevious, IsGoodState, IsGoodWindow, IsGoodRecord}
use Rattle.rohc_context.specs.Failures.{Consequence, leads_to, sn_of, after_check, after_low_state}
use Rattle.rohc_context.specs.NextReference.{without_marker, with_numbers, first_reference, counts_once, next_moving, next_reference, same_stride, same_flag, same_numbering, next_previous}
use Rattle.rohc_context.specs.Renewal.{full_window, static_windows, Renewed, state_in}
use Rattle.rohc_context.specs.Tries.{Try, unshifted, has_short_check, second_tries, third_tries, static_tries, full_tries, Acceptance, Verdict}
use Rattle.rohc_context.specs.Update.{said_under, VerdictUnless, Judges, promoted, updated}
use Rattle.rohc_context.specs.Step.{counting, Answers, arrival, LoneStep}
use Rattle.rohc_context.proofs.ExplainLemmas.{means_good}
use Rattle.rohc_context.proofs.StepLemmas.{ir_reads, dyn_reads, form_reads, stride_good, counting_holds}
use Rattle.rohc_context.proofs.Cases.{Rebuilds, Case, step_case, renews, strays, refuses, checks, lows, restores, refreshes, normal, promotes, updates}

-- ---- Windows and references

window_good : (failure : Bool) (window : List Bool) → IsGoodWindow (and_outcome failure window)
unfolding and_outcome
window_good failure window = rw (length-take 64 (failure ∷ window)) (omega arith)

unmarked_good : (m : Dynamic) → IsGoodDynamic m → IsGoodDynamic (without_marker m)
unmarked_good m good = record {
  tos = good.tos;
  ttl = good.ttl;
  id = good.id;
  udp_sum = good.udp_sum;
  payload_type = good.payload_type;
  sn = good.sn;
  ts = good.ts;
  stride = good.stride;
}

numbers_good : (kept header : Dynamic) → IsGoodDynamic kept → IsGoodDynamic header → IsGoodDynamic (with_numbers kept header)
numbers_good kept header is good = record {
  tos = is.tos;
  ttl = is.ttl;
  id = good.id;
  udp_sum = good.udp_sum;
  payload_type = is.payload_type;
  sn = good.sn;
  ts = good.ts;
  stride = is.stride;
}

first_good : (m : Dynamic) → IsGoodDynamic m → IsGoodReference (first_reference m)
first_good m good = record { moving = unmarked_good m good; unmarked = refl }

-- ---- What is accepted

record IsGoodAcceptance (held : Reference) (a : Acceptance) : Type 0 where
  reference : IsGoodReference a.reference
  near : SharesNumbering held.moving a.reference.moving
  header : IsGoodDynamic a.header.moving

next_good : (held : Reference) (a : Acceptance) → IsGoodAcceptance held a → IsGoodReference (next_reference a)
next_good held a good = go (counts_once a.content) where
  go : (once : Bool) → IsGoodReference (record { moving = if once then with_numbers a.reference.moving a.header.moving else without_marker a.header.moving; carries_sum = a.reference.carries_sum })
  go true = record { moving = numbers_good a.reference.moving a.header.moving good.reference.moving good.header; unmarked = good.reference.unmarked }
  go false = record { moving = unmarked_good a.header.moving good.header; unmarked = refl }

-- ---- The previous reference

same_flag_is : (a b : Bool) → same_flag a b ≡ true → a ≡ b
same_flag_is true b e = sym e
same_flag_is false true e = absurd (let f : false ≡ true = e in cc)
same_flag_is false false e = refl

same_stride_is : (a b : Option ℕ) → same_stride a b ≡ true → a ≡ b
same_stride_is None None e = refl
same_stride_is None (Some b) e = absurd (let f : false ≡ true = e in cc)
same_stride_is (Some a) None e = absurd (let f : false ≡ true = e in cc)
same_stride_is (Some a) (Some b) e = ap Some (eqb-true a b e)

-- both of two tests
both : (a b : Bool) → (a && b) ≡ true → (a ≡ true) × (b ≡ true)
both true b e = (refl, e)
both false b e = absurd (let f : false ≡ true = e in cc)

same_numbering_is : (a b : Dynamic) → same_numbering a b ≡ true → SharesNumbering a b
same_numbering_is a b e =
    let first = both (same_flag a.rnd b.rnd && same_flag a.nbo b.nbo) (same_stride a.stride b.stride) e in
    let flags = both (same_flag a.rnd b.rnd) (same_flag a.nbo b.nbo) first.0 in
    record { rnd = same_flag_is a.rnd b.rnd flags.0; nbo = same_flag_is a.nbo b.nbo flags.1; stride = same_stride_is a.stride b.stride first.1 }

-- the next reference and the one against which the packet was decoded share what the held one has
shares_beside : (held next by : Dynamic) → SharesNumbering held next → SharesNumbering held by → SharesNumbering next by
shares_beside held next by p q = record { rnd = sym p.rnd ∙ q.rnd; nbo = sym p.nbo ∙ q.nbo; stride = sym p.stride ∙ q.stride }

previous_good : (held : Reference) (a : Acceptance) → IsGoodAcceptance held a → IfSome (next_previous held a) (IsGoodPrevious (next_reference a))
previous_good held a good = go (same_numbering held.moving (next_moving a)) refl where
  go : (same : Bool) → same_numbering held.moving (next_moving a) ≡ same → IfSome (if same then Some a.reference else None) (IsGoodPrevious (next_reference a))
  go true e = record {
    good = good.reference;
    numbering = shares_beside held.moving (next_moving a) a.reference.moving (same_numbering_is held.moving (next_moving a) e) good.near;
    sum = refl;
  }
  go false e = tt

-- ---- The tries

-- a try's reference is good, and shares what the held one has
record IsGoodTry (held : Reference) (t : Try) : Type 0 where
  reference : IsGoodReference t.reference
  near : SharesNumbering held.moving t.reference.moving

shares_itself : (moving : Dynamic) → SharesNumbering moving moving
shares_itself moving = record { rnd = refl; nbo = refl; stride = refl }

abbrev AreGoodTries : Reference → List Try → Type 0
AreGoodTries held [] = Unit {0}
AreGoodTries held (t ∷ more) = IsGoodTry held t × AreGoodTries held more

tries_append : (held : Reference) (a b : List Try) → AreGoodTries held a → AreGoodTries held b → AreGoodTries held (a ++ b)
tries_append held [] b p q = q
tries_append held (t ∷ more) b p q = (p.0, tries_append held more b p.1 q)

tries_if : (held : Reference) (b : Bool) (t : Try) → IsGoodTry held t → AreGoodTries held (if b then t ∷ [] else [])
tries_if held true t good = (good, tt)
tries_if held false t good = tt

third_good : (held : Reference) (previous : Option Reference) (c : Content) → IfSome previous (IsGoodPrevious held) → AreGoodTries held (third_tries previous c)
third_good held None c good = tt
third_good held (Some r) c good = tries_if held (has_short_check c.kind) (unshifted r) (record { reference = good.good; near = good.numbering })

full_good : (s : Limits) (passed : ℕ) (r : Reference) (previous : Option Reference) (c : Content) → IsGoodReference r → IfSome previous (IsGoodPrevious r)
    → AreGoodTries r (full_tries s passed r previous c)
full_good s passed r previous c good before =
    let held = shares_itself r.moving in
    tries_append r (unshifted r ∷ second_tries s passed r c) (third_tries previous c) (record { reference = good; near = held }, tries_if r _ _ (record { reference = good; near = held }))
    (third_good r previous c before)

-- what is accepted, if anything is
abbrev IsGoodVerdict : Reference → Result Acceptance Fault → Type 0
IsGoodVerdict held (Ok a) = IsGoodAcceptance held a
IsGoodVerdict held (Err fault) = Unit {0}

verdict_good : (first : ℕ) (udp_sum stride_known : Bool) (fixed : Static) (held : Reference) (c : Content) (tries : List Try) (verdict : Result Acceptance Fault)
    → IsGoodContent first udp_sum stride_known c → AreGoodTries held tries → Verdict fixed c tries verdict → IsGoodVerdict held verdict
verdict_good first udp_sum stride_known fixed held c [] verdict good all p = subst (IsGoodVerdict held) (sym p) tt
verdict_good first udp_sum stride_known fixed held c (t ∷ more) verdict good all (inl (h, fits, e)) =
    subst (IsGoodVerdict held) (sym e) (record {
      reference = all.0.reference;
      near = all.0.near;
      header = means_good first udp_sum stride_known t.reference t.shift c h.moving good all.0.reference.moving fits.explained.fields;
    })
verdict_good first udp_sum stride_known fixed held c (t ∷ more) verdict good all (inr (misses, rest)) =
    verdict_good first udp_sum stride_known fixed held c more verdict good all.1 rest

judges_good : (first : ℕ) (udp_sum stride_known : Bool) (fixed : Static) (held : Reference) (tries : Content → List Try) (read : Result Content FormRefusal) (verdict : Result Acceptance Fault)
    → IfOk read (IsGoodContent first udp_sum stride_known) → ((c : Content) → AreGoodTries held (tries c)) → Judges fixed tries read verdict → IsGoodVerdict held verdict
judges_good first udp_sum stride_known fixed held tries (Err refusal) verdict good all p = subst (IsGoodVerdict held) (sym p) tt
judges_good first udp_sum stride_known fixed held tries (Ok c) verdict good all p = unless (nat_lt 65495 (length c.payload)) p where
  unless : (long : Bool) → VerdictUnless long fixed c (tries c) verdict → IsGoodVerdict held verdict
  unless true p = subst (IsGoodVerdict held) (sym p) tt
  unless false p = verdict_good first udp_sum stride_known fixed held c (tries c) verdict good (all c) p

-- ---- States

if_good : (b : Bool) (x y : Consequence) → IsGoodState x.state → IsGoodState y.state → IsGoodState (if b then x else y).state
if_good true x y p q = p
if_good false x y p q = q

check_good : (s : Limits) (m : ℕ) (state : State) → m < 2 ^ 64 → IsGoodState state → IsGoodState (after_check s m state).state
check_good s m Plain fits good = tt
check_good s m (NoContext nacked) fits good = good
check_good s m (FullContext fixed r previous w) fits good =
    if_good (is_filled s.k1 s.n1 (and_outcome true w)) (leads_to (StaticContext fixed (Some r) [] []) (dues.Nack (Some r.moving.sn)))
    (leads_to (FullContext fixed r previous (and_outcome true w)) dues.Nothing)
    (good.0, good.1, omega arith, omega arith) (good.0, good.1, good.2, window_good true w)
check_good s m (StaticContext fixed r f g) fits good =
    let stays = leads_to (StaticContext fixed r (and_outcome true f) (and_outcome true g)) dues.Nothing in
    let asks = leads_to (StaticContext fixed r [] (and_outcome true g)) (dues.Nack (sn_of r)) in
    if_good (is_filled s.k2 s.n2 (and_outcome true g)) (leads_to (NoContext m) dues.StaticNack) (if is_filled s.k1 s.n1 (and_outcome true f) then asks else stays) fits
    (if_good (is_filled s.k1 s.n1 (and_outcome true f)) asks stays (good.0, good.1, omega arith, window_good true g) (good.0, good.1, window_good true f, window_good true g))

low_good : (s : Limits) (m : ℕ) (state : State) → m < 2 ^ 64 → IsGoodState state → IsGoodState (after_low_state s m state).state
low_good s m Plain fits good = tt
low_good s m (NoContext nacked) fits good = if_good _ (leads_to (NoContext m) dues.StaticNack) (leads_to (NoContext nacked) dues.Nothing) fits good
low_good s m (FullContext fixed r previous w) fits good = good
low_good s m (StaticContext fixed r f g) fits good =
    if_good (is_filled s.k1 s.n1 (and_outcome true f)) (leads_to (StaticContext fixed r [] g) (dues.Nack (sn_of r))) (leads_to (StaticContext fixed r (and_outcome true f) g) dues.Nothing)
    (good.0, good.1, omega arith, good.3) (good.0, good.1, window_good true f, good.3)

-- ---- Records

takes_good : (m : ℕ) (state : State) (next : Option Record) → m < 2 ^ 64 → IsGoodState state → next ≡ Some (record { accepted = m; state = state }) → IfSome next IsGoodRecord
takes_good m state next fits good e = subst (λ n. IfSome n IsGoodRecord) (sym e) (record { accepted = fits; state = good })

full_window_good : (state : Option State) → IsGoodWindow (full_window state)
full_window_good None = omega arith
full_window_good (Some Plain) = omega arith
full_window_good (Some (NoContext nacked)) = omega arith
full_window_good (Some (StaticContext fixed r f g)) = omega arith
full_window_good (Some (FullContext fixed r previous w)) = window_good false w

static_windows_good : (state : Option State) → IsGoodWindow (static_windows state).0 × IsGoodWindow (static_windows state).1
static_windows_good None = (omega arith, omega arith)
static_windows_good (Some Plain) = (omega arith, omega arith)
static_windows_good (Some (NoContext nacked)) = (omega arith, omega arith)
static_windows_good (Some (StaticContext fixed r f g)) = (window_good false f, window_good false g)
static_windows_good (Some (FullContext fixed r previous w)) = (omega arith, omega arith)

module _ (s : Settings) (m : ℕ) (h : Header) where
  delivers_good : (fixed : Static) (moving : Dynamic) (payload : List ℕ) (window : List Bool) (a : Response) (x : Option Record)
      → m < 2 ^ 64 → IsGoodStatic fixed → IsGoodDynamic moving → IsGoodWindow window → Rebuilds s m h fixed moving payload window a x → IfSome x IsGoodRecord
  delivers_good fixed moving payload window a x fits f g w (octets, is, (e, k)) =
      takes_good m (FullContext fixed (first_reference moving) None window) x fits (f, first_good moving g, tt, w) k

  renewed_good : (c : Option Record) (content : IrContent) (a : Response) (x : Option Record)
      → m < 2 ^ 64 → chain_good.IsGoodContent content → Answers s h (Renewed (arrival s m h) (state_in c) content) a x → IfSome x IsGoodRecord
  renewed_good c (chain.Plain packet) a x fits content (e, f, p) = takes_good m Plain x fits tt (gives s h e _ a x f p).1
  renewed_good c (chain.StaticOnly fixed) a x fits content (e, f, p) =
      let windows = static_windows_good (state_in c) in
      takes_good m _ x fits (content, tt, windows.0, windows.1) (gives s h e _ a x f p).1
  renewed_good c (chain.Whole fixed moving payload) a x fits content (e, (octets, is, f), p) =
      delivers_good fixed moving payload (full_window (state_in c)) a x fits content.0 content.1 (full_window_good (state_in c)) (octets, is, gives s h e _ a x f p)

pub step_good : (before : Option Record) (s : Settings) (m : ℕ) (h : Header) → AreGoodValues before s m h → (a : Response) (x : Option Record) → LoneStep before s m h a x → IfSome x IsGoodRecord
step_good before s m h good a x step = go (step_case before s m h a x step) where
  fits : m < 2 ^ 64
  fits = good.moment_fits

  all : All IsOctet h.rest
  all = good.header.rest

  -- the record that counts is good
  counted : (r : Record) → counting s m before ≡ Some r → IsGoodRecord r
  counted r is = subst (λ n. IfSome n IsGoodRecord) is (counting_holds IsGoodRecord s m before good.record_before)

  -- and so is its state
  state_is : (r : Record) (state : State) → counting s m before ≡ Some r → r.state ≡ state → IsGoodState state
  state_is r state is e = subst IsGoodState e (counted r is).state

  stays : x ≡ before → IfSome x IsGoodRecord
  stays e = subst (λ n. IfSome n IsGoodRecord) (sym e) good.record_before

  fails : (r : Record) (state : State) → counting s m before ≡ Some r → IsGoodState state → x ≡ Some (record { accepted = r.accepted; state = state }) → IfSome x IsGoodRecord
  fails r state is good e = subst (λ n. IfSome n IsGoodRecord) (sym e) (record { accepted = (counted r is).accepted; state = good })

  ir_good_content : (kind : HeadKind) → h.kind ≡ kind → IsIr kind → (content : IrContent) → ir_at h ≡ Ok content → chain_good.IsGoodContent content
  ir_good_content (Ir dynamic) e ir content read = (ir_reads h dynamic content e all read).0
  ir_good_content IrDyn e ir content read = absurd ir
  ir_good_content Other e ir content read = absurd ir

  judged : (fixed : Static) (held : Reference) (tries : Content → List Try) (v : Acceptance) → ((c : Content) → AreGoodTries held (tries c)) → Judges fixed tries (said_under h held) (Ok v)
      → IsGoodAcceptance held v
  judged fixed held tries v good judges =
      judges_good h.first held.carries_sum (is_some held.moving.stride) fixed held tries (said_under h held) (Ok v) (form_reads h held all) good judges

  go : Case before s m h a x → IfSome x IsGoodRecord
  go (renews content ir read p) = renewed_good s m h (counting s m before) content a x fits (ir_good_content h.kind refl ir content read) p
  go (strays refusal none which f g) = stays g
  go (refuses refusal of_octets f g) = stays g
  go (checks r is p) = fails r (after_check (limits s) m r.state).state is (check_good (limits s) m r.state fits (counted r is).state) p.1
  go (lows r is low p) = fails r (after_low_state (limits s) m r.state).state is (low_good (limits s) m r.state fits (counted r is).state) p.1
  go (restores r fixed reference f g d is kind e read p) =
      let state = state_is r _ is e in
      delivers_good s m h fixed d.moving d.payload [] a x fits state.0 (dyn_reads h reference d kind all (stride_good reference state.1) read).0 (omega arith) p
  go (refreshes r fixed reference previous w d is kind e read p) =
      let state = state_is r _ is e in
      delivers_good s m h fixed d.moving d.payload (and_outcome false w) a x fits state.0 (dyn_reads h (Some reference) d kind all state.1.moving.stride read).0 (window_good false w) p
  go (normal r is kind e p) = takes_good m Plain x fits tt p.1
  go (promotes r fixed reference f g v is kind e judges p) =
      let state = state_is r _ is e in
      let near = shares_itself reference.moving in
      let v_good = judged fixed reference (λ c. static_tries reference) v (λ c. (record { reference = state.1; near = near }, tt)) judges in
      takes_good m (promoted fixed v) x fits (state.0, next_good reference v v_good, tt, omega arith) p.1
  go (updates r fixed reference previous w v is kind e judges p) =
      let state = state_is r _ is e in
      let v_good = judged fixed reference (full_tries (limits s) (m - r.accepted) reference previous) v (λ c. full_good (limits s) (m - r.accepted) reference previous c state.1 state.2) judges in
      takes_good m (updated fixed reference w v) x fits (state.0, next_good reference v v_good, previous_good reference v v_good, window_good false w) p.1

-- ---- What the code keeps is good

kept_window : (w : Window) → IsGoodWindow (outcomes w)
unfolding outcomes
kept_window w = rw (length-bits w.length w.word) w.few

kept_reference : (fixed : Static) (r : saved.Reference) → IsKept fixed r.moving r.saved → IsGoodReference (reference_of r)
kept_reference fixed r kept = record { moving = kept.good; unmarked = kept.unmarked }

kept_references : (fixed : Static) (reference : Option saved.Reference) → ForSome reference (λ r. IsKept fixed r.moving r.saved) → IfSome (option_map reference_of reference) IsGoodReference
kept_references fixed None kept = tt
kept_references fixed (Some r) kept = kept_reference fixed r (kept r refl)

kept_previous : (fixed : Static) (r : saved.Reference) (previous : Option Previous) → ForSome previous (λ p. IsKept fixed (fields_by r.moving p) p.saved)
    → IfSome (option_map (previous_by r) previous) (IsGoodPrevious (reference_of r))
kept_previous fixed r None kept = tt
kept_previous fixed r (Some p) kept = record {
  good = record { moving = (kept p refl).good; unmarked = (kept p refl).unmarked };
  numbering = record { rnd = refl; nbo = refl; stride = refl };
  sum = refl;
}

kept_state : (st : code.State) → IsGoodState (state_of st)
kept_state states.Plain = tt
kept_state (states.NoContext c) = c.in_range
kept_state (states.Static c) = (c.good, kept_references c.fixed c.reference c.kept, kept_window c.windows.0, kept_window c.windows.1)
kept_state (states.Full c) = (c.good, kept_reference c.fixed c.reference c.kept, kept_previous c.fixed c.reference c.previous c.kept_before, kept_window c.windows.0)

pub context_good : (c : Context) → IsGoodRecord (record_of c)
unfolding record_of
context_good c = record { accepted = c.in_range; state = kept_state c.state }

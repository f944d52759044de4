-- What a packet of kind Other comes to.
use Rattle.std.proofs.Common.{◌≡◌, ◌≢◌, ℕ, ◌-◌, ◌≤◌, Bool, true, false, List, [], ◌∷◌, length, Option, Some, None, inl, inr, ap, option_map, refl, sym, subst, ◌∙◌, arith}
use Rattle.std.specs.Prelude.{Result, Ok, Err, IfSome, IfNone, IfOk, IfErr, ◌++◌, nat_lt, nat_le, if◌then◌else◌}
use Rattle.std.proofs.lemmas.Bool.Decides.{nat_tests}
use Rattle.rohc_header.specs.declared.fields.Static.{Static}
use Rattle.rohc_forms.specs.declared.refusal.FormRefusal.{FormRefusal}
use Rattle.rohc_forms.specs.Content.{Content}
use Rattle.rohc_context.specs.Settings.{Limits, limits}
use Rattle.rohc_context.proofs.Common.{nothing_sent}
use Rattle.rohc_context.specs.declared.fault.Fault.{Fault}
use Rattle.rohc_context.specs.declared.fault.Fault.TheVariants.{Unfit}
use Rattle.rohc_context.specs.declared.tries.Accepted.{Accepted}
use Rattle.rohc_context.specs.Read.{try_of, acceptance_of, verdict_of}
use Rattle.rohc_context.specs.Tries.{Try, Acceptance, Verdict, Fits, Misses, unshifted, static_tries, second_tries, third_tries, full_tries}
use Rattle.rohc_frame.specs.declared.header.HeadKind.TheVariants.{Other}
use Rattle.rohc_frame.specs.Header.{Header}
use Rattle.rohc_context.specs.declared.due.Due.{Due}
use Rattle.rohc_context.specs.declared.settings.Settings.{Settings}
use Rattle.rohc_context.specs.Due.{sent}
use Rattle.rohc_context.specs.Response.{Response, delivered}
use Rattle.rohc_context.specs.Step.{Update, TooLow, rule, Follows, Gives, Answers, arrival}
use Rattle.rohc_context.specs.Record.{Reference, State, Plain, StaticContext, FullContext, Record, reference_of, previous_of, state_of}
use Rattle.rohc_context.specs.declared.reference.Reference as saved
use Rattle.rohc_context.specs.declared.state.State as code
use Rattle.rohc_context.specs.declared.state.State.TheVariants as states
use Rattle.rohc_context.specs.declared.state.StaticContext as code_static
use Rattle.rohc_context.specs.declared.state.FullContext as code_full
use Rattle.rohc_context.specs.Window.{and_outcome, outcomes}
use Rattle.rohc_context.specs.NextReference.{next_reference, kept_previous}
use Rattle.rohc_context.specs.Explains.{Explained}
use Rattle.rohc_context.specs.Repaired.{IsRepaired}
use Rattle.rohc_context.specs.Update.{VerdictUnless, Judges, settled, MissesFirst, said_under, acknowledged, silent, promoted, updated}

Err_not_Ok : {A E : Type 0} {e : E} {a : A} → Err e ≢ Ok a
Err_not_Ok e = cc

short : (n : ℕ) → n ≤ 65495 → nat_lt 65495 n ≡ false
short n h = grind (arith, nat_tests)

-- a packet that is read and isn't too long comes to what its tries say
pub judged : (fixed : Static) (tries : Content → List Try) (read : Result Content FormRefusal) (c : Content) (verdict : Result Acceptance Fault)
    → read ≡ Ok c → length c.payload ≤ 65495 → Verdict fixed c (tries c) verdict → Judges fixed tries read verdict
judged fixed tries read c verdict e few is =
    subst (λ r. Judges fixed tries r verdict) (sym e) (subst (λ b. VerdictUnless b fixed c (tries c) verdict) (sym (short (length c.payload) few)) is)

-- the state that an accepted packet leaves
pub updated_is : (fixed : Static) (held next : Reference) (window w : List Bool) (previous : Option Reference) (a : Acceptance)
    → next ≡ next_reference a → previous ≡ kept_previous held next.moving a.reference → w ≡ and_outcome false window
    → FullContext fixed next previous w ≡ updated fixed held window a
updated_is fixed held next window w previous a e f g = rw (f, g, e) refl

pub promoted_is : (fixed : Static) (next : Reference) (w : List Bool) (a : Acceptance) → next ≡ next_reference a → w ≡ [] → FullContext fixed next None w ≡ promoted fixed a
promoted_is fixed next w a e f = rw (e, f) refl

-- the one try of Static Context fits
pub first_fits : (fixed : Static) (r : Reference) (c : Content) (h : Explained) (a : Acceptance) → Fits fixed (unshifted r) c h
    → a ≡ record { content = c; reference = r; header = h } → Verdict fixed c (static_tries r) (Ok a)
first_fits fixed r c h a fits e = inl (h, fits, ap Ok e)

-- An arrival of kind Other in Static Context, against its reference.
abbrev pub Promotes : State → Static → Reference → Type 0
Promotes state fixed reference = (a m : ℕ) (s : Settings) (h : Header) (first : ℕ) (verdict : Result Acceptance Fault) (response : Response) (next : Option Record)
    → nat_le 192 first ≡ true
    → Judges fixed (λ c. static_tries reference) (said_under h reference) verdict
    → Gives s h (settled (arrival s m h) (record { accepted = a; state = state }) (promoted fixed) acknowledged verdict) response next
    → Answers s h (Follows (rule state Other first) (arrival s m h) (record { accepted = a; state = state })) response next

promotes_from : (fixed : Static) (reference : Reference) (f g : List Bool) → Promotes (StaticContext fixed (Some reference) f g) fixed reference
promotes_from fixed reference f g a m s h first verdict response next high judges accepts =
    let r : Record = record { accepted = a; state = StaticContext fixed (Some reference) f g } in
    subst (λ b. Answers s h (Follows (if b then Update else TooLow) (arrival s m h) r) response next) (sym high) (_, (verdict, judges, refl), accepts)

pub promotes : (state : State) (fixed : Static) (reference : Reference) (f g : List Bool) → state ≡ StaticContext fixed (Some reference) f g → Promotes state fixed reference
promotes state fixed reference f g e = subst (λ st. Promotes st fixed reference) (sym e) (promotes_from fixed reference f g)

-- the acceptance that the code found is taken, and leads to this
pub accepts_as : (s : Settings) (m : ℕ) (h : Header) (r : Record) (state : Acceptance → State) (due : Acceptance → Due) (a : Acceptance) (head payload : List ℕ)
    (feedback : Option (List ℕ)) (left : State) → head ≡ a.header.octets → payload ≡ a.content.payload → feedback ≡ sent s.mode h (due a) → left ≡ state a
    → Gives s h (settled (arrival s m h) r state due (Ok a)) (delivered head payload feedback) (Some (record { accepted = m; state = left }))
accepts_as s m h r state due a head payload feedback left e f g k = rw (e, f, g, k) (refl, refl)

-- the state that the code finds
pub static_is : (st : code.State) (c : code_static.StaticContext) (r : saved.Reference) → st ≡ states.Static c → c.reference ≡ Some r
    → state_of st ≡ StaticContext c.fixed (Some (reference_of r)) (outcomes c.windows.0) (outcomes c.windows.1)
static_is st c r e f = ap state_of e ∙ ap (λ x. StaticContext c.fixed (option_map reference_of x) (outcomes c.windows.0) (outcomes c.windows.1)) f

-- an accepted packet for which no feedback is sent
pub delivers_silently : (s : Settings) (m : ℕ) (h : Header) (r : Record) (state : Acceptance → State) (a : Acceptance) (response : Response) (left : State)
    → response ≡ delivered a.header.octets a.content.payload None → left ≡ state a
    → Gives s h (settled (arrival s m h) r state silent (Ok a)) response (Some (record { accepted = m; state = left }))
delivers_silently s m h r state a response left e f =
    (e ∙ ap (delivered a.header.octets a.content.payload) (sym (nothing_sent s.mode h)), ap (λ x. Some (record { accepted = m; state = x })) f)

-- An arrival of kind Other in Full Context.
pub updates : (st : State) (fixed : Static) (reference : Reference) (previous : Option Reference) (window : List Bool) → st ≡ FullContext fixed reference previous window
    → (a m passed : ℕ) (s : Settings) (h : Header) (first : ℕ) (verdict : Result Acceptance Fault) (response : Response) (next : Option Record) → passed ≡ m - a
    → Judges fixed (full_tries (limits s) passed reference previous) (said_under h reference) verdict
    → Gives s h (settled (arrival s m h) (record { accepted = a; state = st }) (updated fixed reference window) silent verdict) response next
    → Answers s h (Follows (rule st Other first) (arrival s m h) (record { accepted = a; state = st })) response next
updates st fixed reference previous window is a m passed s h first verdict response next since judges accepts =
    subst (λ x. Gives s h (settled (arrival s m h) (record { accepted = a; state = x }) (updated fixed reference window) silent verdict) response next
    → Answers s h (Follows (rule x Other first) (arrival s m h) (record { accepted = a; state = x })) response next) (sym is)
    (λ given. (_, (verdict, subst (λ n. Judges fixed (full_tries (limits s) n reference previous) (said_under h reference) verdict) since judges, refl), given)) accepts

-- A Normal packet.
pub normals : (st : State) (a m : ℕ) (s : Settings) (h : Header) (response : Response) → st ≡ Plain → response ≡ delivered (h.first ∷ []) h.rest None
    → Answers s h (Follows (rule st Other h.first) (arrival s m h) (record { accepted = a; state = st })) response (Some (record { accepted = m; state = st }))
normals st a m s h response is e =
    subst (λ x. Answers s h (Follows (rule x Other h.first) (arrival s m h) (record { accepted = a; state = x })) response (Some (record { accepted = m; state = x }))) (sym is)
    (_, refl, (e ∙ ap (delivered (h.first ∷ []) h.rest) (sym (nothing_sent s.mode h)), refl))

-- A packet that was read misses by the first try, or fits by it.
abbrev pub IsReadRepaired : Static → Reference → Result Content FormRefusal → Bool → Type 0
IsReadRepaired fixed held read repaired = (c : Content) × (read ≡ Ok c) × IsRepaired fixed held c repaired

-- What an update leads to: a packet that is accepted, and the state after it, or a fault.
abbrev pub Updated : Static → (Content → List Try) → Result Content FormRefusal → Reference → List Bool → Result Bool Fault → Response → State → Type 0
Updated fixed tries read held window result response left =
    IfOk result (λ _. (a : Acceptance) × Judges fixed tries read (Ok a) × (response ≡ delivered a.header.octets a.content.payload None) × (left ≡ updated fixed held window a))
    × IfErr result (λ e. Judges fixed tries read (Err e)) × IfOk result (IsReadRepaired fixed held read)

-- What the tries found is accepted, or the packet is unfit.
pub updated_or_unfit : (fixed : Static) (tries : Content → List Try) (read : Result Content FormRefusal) (held : Reference) (window : List Bool) (c : Content) (found : Option Accepted)
    (repaired : Bool) (result : Result Bool Fault) (response : Response) (left : State) (Stays : Type 0) → read ≡ Ok c → length c.payload ≤ 65495 → Verdict fixed c (tries c) (verdict_of c found)
    → IsRepaired fixed held c repaired
    → IfSome found (λ a. (result ≡ Ok repaired) × (response ≡ delivered a.header.header.octets c.payload None) × (left ≡ updated fixed held window (acceptance_of c a)))
    → IfNone found ((result ≡ Err Unfit) × Stays) → Updated fixed tries read held window result response left
updated_or_unfit fixed tries read held window c None repaired result response left Stays e few is how some none =
    subst (λ r. Updated fixed tries read held window r response left) (sym none.0) (tt, judged fixed tries read c (Err Unfit) e few is, tt)
updated_or_unfit fixed tries read held window c (Some a) repaired result response left Stays e few is how some none =
    subst (λ r. Updated fixed tries read held window r response left) (sym some.0)
    ((acceptance_of c a, judged fixed tries read c (Ok (acceptance_of c a)) e few is, some.1, some.2), tt, (c, e, how))

-- Where earlier tries miss, the third decides. The context is still the one that the packet found.
pub after_miss : (s : Limits) (passed : ℕ) (h : Header) (x y : code_full.FullContext) (c : Content) (result : Result Bool Fault) (response : Response) (left : State)
    → y ≡ x → said_under h (reference_of x.reference) ≡ Ok c → length c.payload ≤ 65495 → Misses x.fixed (unshifted (reference_of x.reference)) c
    → ((verdict : Result Acceptance Fault) → Verdict x.fixed c (third_tries (previous_of x) c) verdict
    → Verdict x.fixed c (full_tries s passed (reference_of x.reference) (previous_of x) c) verdict)
    → IfOk result (λ _. (a : Acceptance) × Verdict y.fixed c (third_tries (previous_of y) c) (Ok a) × (response ≡ delivered a.header.octets a.content.payload None)
    × (left ≡ updated y.fixed (reference_of y.reference) (outcomes y.windows.0) a))
    → IfOk result (λ repaired. repaired ≡ true)
    → IfErr result (λ e. Verdict y.fixed c (third_tries (previous_of y) c) (Err e))
    → Updated x.fixed (full_tries s passed (reference_of x.reference) (previous_of x)) (said_under h (reference_of x.reference)) (reference_of x.reference) (outcomes x.windows.0)
    result response left
after_miss s passed h x y c result response left same read few first others = subst (λ (z : code_full.FullContext).
    IfOk result (λ _. (a : Acceptance) × Verdict z.fixed c (third_tries (previous_of z) c) (Ok a) × (response ≡ delivered a.header.octets a.content.payload None)
    × (left ≡ updated z.fixed (reference_of z.reference) (outcomes z.windows.0) a))
    → IfOk result (λ repaired. repaired ≡ true) → IfErr result (λ e. Verdict z.fixed c (third_tries (previous_of z) c) (Err e)) → Came result) (sym same) (came result)
  where
    said : Result Content FormRefusal
    said = said_under h (reference_of x.reference)

    Came : Result Bool Fault → Type 0
    Came r = Updated x.fixed (full_tries s passed (reference_of x.reference) (previous_of x)) said (reference_of x.reference) (outcomes x.windows.0) r response left

    all : (verdict : Result Acceptance Fault) → Verdict x.fixed c (third_tries (previous_of x) c) verdict
        → Judges x.fixed (full_tries s passed (reference_of x.reference) (previous_of x)) said verdict
    all verdict third = judged x.fixed (full_tries s passed (reference_of x.reference) (previous_of x)) said c verdict read few (others verdict third)

    came : (r : Result Bool Fault) → IfOk r (λ _. (a : Acceptance) × Verdict x.fixed c (third_tries (previous_of x) c) (Ok a) × (response ≡ delivered a.header.octets a.content.payload None)
        × (left ≡ updated x.fixed (reference_of x.reference) (outcomes x.windows.0) a))
        → IfOk r (λ repaired. repaired ≡ true) → IfErr r (λ e. Verdict x.fixed c (third_tries (previous_of x) c) (Err e)) → Came r
    came (Ok repaired) (a, third, is, next) how _ = ((a, all (Ok a) third, is, next), tt, (c, read, subst (IsRepaired x.fixed (reference_of x.reference) c) (sym how) first))
    came (Err e) _ _ third = (tt, all (Err e) third, tt)

-- What a try without an extension 3 takes, by the tries of a context, and the state after it.
abbrev pub TakesPlain : Limits → (passed : ℕ) → code_full.FullContext → Content → (head : List ℕ) → (left : State) → Type 0
TakesPlain s passed x c head left = (a : Acceptance) × Verdict x.fixed c (full_tries s passed (reference_of x.reference) (previous_of x) c) (Ok a)
    × (head ≡ a.header.octets) × (a.content ≡ c) × (left ≡ updated x.fixed (reference_of x.reference) (outcomes x.windows.0) a)

pub second_taken : (s : Limits) (passed : ℕ) (x y : code_full.FullContext) (c : Content) (shift : ℕ) (head : List ℕ) (left : State) → y ≡ x
    → Misses x.fixed (unshifted (reference_of x.reference)) c → second_tries s passed (reference_of y.reference) c ≡ try_of y.reference shift ∷ []
    → ((h : Explained) × Fits y.fixed (try_of y.reference shift) c h × (head ≡ h.octets)
    × (left ≡ updated y.fixed (reference_of y.reference) (outcomes y.windows.0) (record { content = c; reference = reference_of y.reference; header = h })))
    → TakesPlain s passed x c head left
second_taken s passed x y c shift head left same misses second (h, fits, is, next) =
    let a : Acceptance = record { content = c; reference = reference_of y.reference; header = h } in
    subst (λ (z : code_full.FullContext). Misses z.fixed (unshifted (reference_of z.reference)) c → TakesPlain s passed z c head left) same
    (λ missed. (a, inr (missed, subst (λ ts. Verdict y.fixed c (ts ++ third_tries (previous_of y) c) (Ok a)) (sym second) (inl (h, fits, refl))), is, refl, next)) misses

-- a packet that faults misses by the first try, if it can be read and isn't too long
pub fault_misses : (fixed : Static) (reference : Reference) (said : Result Content FormRefusal) (fault : Fault)
    → ((fixed : Static) (tries : Content → List Try) → Judges fixed tries said (Err fault)) → MissesFirst fixed reference said
fault_misses fixed reference said fault judges c is few none =
    let verdict : VerdictUnless (nat_lt 65495 (length c.payload)) fixed c (static_tries reference) (Err fault) = subst (λ r. Judges fixed (λ _. static_tries reference) r (Err fault)) is (judges fixed (λ _. static_tries reference)) in
    missed (subst (λ b. VerdictUnless b fixed c (static_tries reference) (Err fault)) (short (length c.payload) few) verdict)
  where
    missed : Verdict fixed c (static_tries reference) (Err fault) → Misses fixed (unshifted reference) c
    missed (inl fits) = absurd (Err_not_Ok fits.2)
    missed (inr misses) = misses.0

-- and so does one that was read and misses
pub misses_by : (fixed : Static) (reference : Reference) (said : Result Content FormRefusal) (c : Content) → said ≡ Ok c → Misses fixed (unshifted reference) c → MissesFirst fixed reference said
misses_by fixed reference said c is misses other was few none = subst (Misses fixed (unshifted reference)) (same (sym is ∙ was)) misses where
  same : ◌≡◌ {A = Result Content FormRefusal} (Ok c) (Ok other) → c ≡ other
  same e = cc

-- Arrivals that are taken, as the step says it.
use Rattle.std.proofs.Common.{◌≡◌, ℕ, Bool, true, false, List, [], Option, Some, None, refl, sym, ap, subst, ◌∙◌, option_map}
use Rattle.std.specs.Prelude.{Result, Ok, Err, IfOk, IfErr, if◌then◌else◌}
use Rattle.rohc_frame.specs.declared.header.HeadKind.{HeadKind}
use Rattle.rohc_frame.specs.declared.header.HeadKind.TheVariants.{Ir, IrDyn, Other}
use Rattle.rohc_frame.specs.Header.{Header, IsIr}
use Rattle.rohc_header.specs.declared.fields.Static.{Static}
use Rattle.rohc_chain.specs.declared.refusal.ChainRefusal.{ChainRefusal}
use Rattle.rohc_chain.specs.Packets.{IrContent, ir_at, DynContent}
use Rattle.rohc_context.specs.declared.fault.Fault.{Fault}
use Rattle.rohc_context.specs.declared.refusal.Refusal.{Refusal}
use Rattle.rohc_context.specs.declared.refusal.Refusal.TheVariants as refusals
use Rattle.rohc_context.proofs.Common.{nothing_sent}
use Rattle.rohc_context.specs.declared.reply.Reply.{Reply}
use Rattle.rohc_context.specs.declared.state.State as code
use Rattle.rohc_context.specs.declared.state.State.TheVariants as states
use Rattle.rohc_context.specs.declared.state.StaticContext as code_static
use Rattle.rohc_context.specs.declared.state.FullContext as code_full
use Rattle.rohc_context.specs.Window.{and_outcome, outcomes}
use Rattle.rohc_context.specs.Faults.{fault_of_chain}
use Rattle.rohc_context.specs.Outcomes.{refuses, ends, refusal_of}
use Rattle.rohc_context.specs.Refresh.{dyn_said, RefreshesTo}
use Rattle.rohc_context.specs.Step.{rule, counts, Follows, Steps, Gives, Answers, arrival, LoneStep}
use Rattle.rohc_context.specs.declared.settings.Settings.{Settings}
use Rattle.rohc_context.specs.Record.{Reference, State, reference_of, state_of, Record}
use Rattle.rohc_context.specs.Response.{Response, response_of, failed, refused}
use Rattle.rohc_context.specs.Renewal.{Delivers, Renewed, state_in, Renews}

-- what an IR says leads to, where it is read so
pub renews_as : (s : Settings) (m : ℕ) (h : Header) (c before : Option Record) (content : IrContent) (response : Response) (next : Option Record)
    → ir_at h ≡ Ok content → Answers s h (Renewed (arrival s m h) (state_in c) content) response next → Answers s h (Renews (arrival s m h) c before (ir_at h)) response next
renews_as s m h c before content response next read is = subst (λ x. Answers s h (Renews (arrival s m h) c before x) response next) (sym read) is

pub renews : (s : Settings) (m : ℕ) (h : Header) (counts : Bool) (r : Record) (counting : Option State) (content : IrContent) (response : Response) (next : Option Record)
    → counting ≡ (if counts then Some r.state else None) → ir_at h ≡ Ok content → Answers s h (Renewed (arrival s m h) counting content) response next
    → Answers s h (Renews (arrival s m h) (if counts then Some r else None) (Some r) (ir_at h)) response next
renews s m h true r counting content response next e read is =
    renews_as s m h (Some r) (Some r) content response next read (subst (λ st. Answers s h (Renewed (arrival s m h) st content) response next) e is)
renews s m h false r counting content response next e read is =
    renews_as s m h None (Some r) content response next read (subst (λ st. Answers s h (Renewed (arrival s m h) st content) response next) e is)

-- an IR that is refused
pub renews_not : (s : Settings) (m : ℕ) (h : Header) (c before : Option Record) (refusal : ChainRefusal) (fault : Fault) (response : Response) (next : Option Record)
    → ir_at h ≡ Err refusal → fault ≡ fault_of_chain refusal → Gives s h (ends (arrival s m h) c before fault) response next → Answers s h (Renews (arrival s m h) c before (ir_at h)) response next
renews_not s m h c before refusal fault response next read is given =
    subst (λ x. Answers s h (Renews (arrival s m h) c before x) response next) (sym read) (_, ap (ends (arrival s m h) c before) is, given)

-- the answer to a refusal for which nothing is due
pub refused_so : (s : Settings) (h : Header) (refusal : Refusal) (before : Option Record) (response : Response) → response ≡ refused refusal → Gives s h (refuses refusal before) response before
refused_so s h refusal before response e = (e ∙ ap (failed refusal) (sym (nothing_sent s.mode h)), refl)

-- one that is refused where no record counts
pub renews_refused : (s : Settings) (m : ℕ) (h : Header) (counts : Bool) (r : Record) (refusal : ChainRefusal) (fault : Fault) (response : Response) (next : Option Record)
    → counts ≡ false → ir_at h ≡ Err refusal → fault ≡ fault_of_chain refusal → response ≡ refused (refusal_of fault) → next ≡ Some r
    → Answers s h (Renews (arrival s m h) (if counts then Some r else None) (Some r) (ir_at h)) response next
renews_refused s m h true r refusal fault response next none read is e f = absurd (let g : true ≡ false = none in cc)
renews_refused s m h false r refusal fault response next none read is e f =
    renews_not s m h None (Some r) refusal fault response next read is (e ∙ ap (failed (refusal_of fault)) (sym (nothing_sent s.mode h)), f)

-- where no record counts, an IR makes one, and no other packet does
pub first_ir : (s : Settings) (m : ℕ) (h : Header) (kind : HeadKind) (before : Option Record) (response : Response) (next : Option Record) → IsIr kind
    → Answers s h (Renews (arrival s m h) None before (ir_at h)) response next → Answers s h (Steps kind None before (arrival s m h)) response next
first_ir s m h (Ir dynamic) before response next is p = p
first_ir s m h IrDyn before response next is p = absurd is
first_ir s m h Other before response next is p = absurd is

pub first_other : (s : Settings) (m : ℕ) (h : Header) (kind : HeadKind) (before : Option Record) (response : Response) → ¬ IsIr kind → response ≡ refused refusals.NoContext
    → Answers s h (Steps kind None before (arrival s m h)) response before
first_other s m h (Ir dynamic) before response other e = absurd (other tt)
first_other s m h IrDyn before response other e = (_, refl, refused_so s h refusals.NoContext before response e)
first_other s m h Other before response other e = (_, refl, refused_so s h refusals.NoContext before response e)

pub idles : (s : Settings) (m : ℕ) (h : Header) (r : Record) (response : Response) → ¬ IsIr h.kind → counts s m r ≡ false → response ≡ refused refusals.NoContext
    → LoneStep (Some r) s m h response (Some r)
unfolding LoneStep
idles s m h r response other idle e =
    subst (λ b. Answers s h (Steps h.kind (if b then Some r else None) (Some r) (arrival s m h)) response (Some r)) (sym idle) (first_other s m h h.kind (Some r) response other e)

-- An IR-DYN against a state with this static part, reference and window, where the code reads it so.
abbrev Settles : code.State → Static → Option Reference → List Bool → Type 0
Settles st fixed reference window = (a m : ℕ) (s : Settings) (h : Header) (first : ℕ) (refreshed : Result (code.State × Reply) ChainRefusal) (response : Response) (next : Record)
    → IfOk refreshed (λ x. (d : DynContent) × (dyn_said h reference ≡ Ok d)
    × ((moment : ℕ) → Answers s h (Delivers (arrival s moment h) fixed d.moving d.payload window) (response_of x.1) (Some (record { accepted = moment; state = state_of x.0 }))))
    → IfErr refreshed (λ e. dyn_said h reference ≡ Err e)
    → IfOk refreshed (λ x. response ≡ response_of x.1)
    → IfOk refreshed (λ x. next ≡ record { accepted = m; state = state_of x.0 })
    → IfErr refreshed (λ e. Gives s h (ends (arrival s m h) (Some (record { accepted = a; state = state_of st })) (Some (record { accepted = a; state = state_of st })) (fault_of_chain e)) response (Some next))
    → Answers s h (Follows (rule (state_of st) IrDyn first) (arrival s m h) (record { accepted = a; state = state_of st })) response (Some next)

-- what was read leads to, where the code answers as it does
refreshes_as : (s : Settings) (m : ℕ) (h : Header) (r : Record) (fixed : Static) (window : List Bool) (read : Result DynContent ChainRefusal) (d : DynContent) (response x : Response) (next y : Record)
    → read ≡ Ok d → response ≡ x → next ≡ y → Answers s h (Delivers (arrival s m h) fixed d.moving d.payload window) x (Some y)
    → Answers s h (RefreshesTo (arrival s m h) r fixed window read) response (Some next)
refreshes_as s m h r fixed window read d response x next y e f g is = subst (λ k. Answers s h (RefreshesTo (arrival s m h) r fixed window k) response (Some next)) (sym e)
    (subst (λ k. Answers s h (Delivers (arrival s m h) fixed d.moving d.payload window) k (Some next)) (sym f) (subst (λ n. Answers s h (Delivers (arrival s m h) fixed d.moving d.payload window) x (Some n)) (sym g) is))

refreshes_not : (s : Settings) (m : ℕ) (h : Header) (r : Record) (fixed : Static) (window : List Bool) (read : Result DynContent ChainRefusal) (e : ChainRefusal) (response : Response) (next : Record)
    → read ≡ Err e → Gives s h (ends (arrival s m h) (Some r) (Some r) (fault_of_chain e)) response (Some next)
    → Answers s h (RefreshesTo (arrival s m h) r fixed window read) response (Some next)
refreshes_not s m h r fixed window read e response next f given = subst (λ k. Answers s h (RefreshesTo (arrival s m h) r fixed window k) response (Some next)) (sym f) (_, refl, given)

static_settles : (c : code_static.StaticContext) → Settles (states.Static c) c.fixed (option_map reference_of c.reference) []
static_settles c a m s h first (Ok x) response next taken fault reply kept refused =
    let r : Record = record { accepted = a; state = state_of (states.Static c) } in
    refreshes_as s m h r c.fixed [] (dyn_said h (option_map reference_of c.reference)) taken.0 response (response_of x.1) next (record { accepted = m; state = state_of x.0 }) taken.1 reply kept (taken.2 m)
static_settles c a m s h first (Err e) response next taken fault reply kept refused =
    refreshes_not s m h (record { accepted = a; state = state_of (states.Static c) }) c.fixed [] (dyn_said h (option_map reference_of c.reference)) e response next fault refused

full_settles : (c : code_full.FullContext) → Settles (states.Full c) c.fixed (Some (reference_of c.reference)) (and_outcome false (outcomes c.windows.0))
full_settles c a m s h first (Ok x) response next taken fault reply kept refused =
    let r : Record = record { accepted = a; state = state_of (states.Full c) } in
    refreshes_as s m h r c.fixed (and_outcome false (outcomes c.windows.0)) (dyn_said h (Some (reference_of c.reference))) taken.0 response (response_of x.1) next (record { accepted = m; state = state_of x.0 }) taken.1 reply kept (taken.2 m)
full_settles c a m s h first (Err e) response next taken fault reply kept refused =
    refreshes_not s m h (record { accepted = a; state = state_of (states.Full c) }) c.fixed (and_outcome false (outcomes c.windows.0)) (dyn_said h (Some (reference_of c.reference))) e response next fault refused

pub settles_static : (st : code.State) (c : code_static.StaticContext) → st ≡ states.Static c → Settles st c.fixed (option_map reference_of c.reference) []
settles_static st c e = subst (λ x. Settles x c.fixed (option_map reference_of c.reference) []) (sym e) (static_settles c)

pub settles_full : (st : code.State) (c : code_full.FullContext) → st ≡ states.Full c
    → Settles st c.fixed (Some (reference_of c.reference)) (and_outcome false (outcomes c.windows.0))
settles_full st c e = subst (λ x. Settles x c.fixed (Some (reference_of c.reference)) (and_outcome false (outcomes c.windows.0))) (sym e) (full_settles c)

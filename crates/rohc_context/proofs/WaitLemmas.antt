-- Waiting times.
use Rattle.std.proofs.Common.{◌≡◌, ◌≢◌, ℕ, ◌+◌, ◌-◌, ◌*◌, ◌^◌, ◌<◌, ◌≤◌, [], ◌∷◌, Bool, true, false, Option, Some, None, refl, sym, ap, subst, ◌∙◌, arith}
use Rattle.std.specs.Prelude.{Result, Ok, Err, nat_le, unwrap_or, ◌&&◌, if◌then◌else◌}
use Rattle.std.proofs.lemmas.Bool.{le-leb, lt-leb}
use Rattle.std.proofs.lemmas.Nat.{pow_pos}
use Rattle.std.proofs.Math.Nat.{le-mul_of_pos_right}
use Rattle.std.proofs.lemmas.Bool.Decides.{nat_tests}
use Rattle.rohc_frame.specs.declared.header.HeadKind.{HeadKind}
use Rattle.rohc_frame.specs.declared.header.HeadKind.TheVariants.{Ir, IrDyn, Other}
use Rattle.rohc_frame.specs.Header.{Header, IsIr}
use Rattle.rohc_chain.specs.declared.refusal.ChainRefusal.{ChainRefusal}
use Rattle.rohc_chain.specs.Packets.{IrContent, ir_at}
use Rattle.rohc_chain.specs.Packets as chain
use Rattle.rohc_context.specs.Settings.{limits}
use Rattle.rohc_context.specs.declared.due.Due.TheVariants as dues
use Rattle.rohc_context.specs.declared.refusal.Refusal.{Refusal}
use Rattle.rohc_context.specs.declared.refusal.Refusal.TheVariants as refusals
use Rattle.rohc_context.specs.declared.settings.Settings.{Settings}
use Rattle.rohc_context.specs.Record.{State, NoContext, Record}
use Rattle.rohc_context.specs.Response.{Response, failed}
use Rattle.rohc_context.specs.Faults.{fault_of_chain}
use Rattle.rohc_context.specs.Failures.{leads_to, after_low_state}
use Rattle.rohc_context.specs.Outcomes.{Arrival, Ending, refuses, fails, refusal_of}
use Rattle.rohc_context.specs.Renewal.{Renewed, Renews}
use Rattle.rohc_context.specs.Tries.{Try, has_short_check}
use Rattle.rohc_context.specs.Step.{TooLow, rule, counts, counting, Steps, Gives, arrival, LoneStep}
use Rattle.rohc_context.specs.Waits.{NacksAfterWait, WaitsToNack, IdleIsNone, CountsUntilIdle, TriesAfterWait, WaitsToTry}
use Rattle.rohc_context.proofs.RefusalLemmas.{step_low, step_untaken}
use Rattle.rohc_context.proofs.Common.{nothing_sent}

-- ---- The last STATIC-NACK

-- a state No Context takes nothing but an IR
takes_no_other : (nacked : ℕ) (kind : HeadKind) (first : ℕ) → ¬ IsIr kind → rule (NoContext nacked) kind first ≡ TooLow
takes_no_other nacked (Ir dynamic) first other = absurd (other tt)
takes_no_other nacked IrDyn first other = refl
takes_no_other nacked Other first other = refl

-- what such a packet leads to
low_fails : (r : Record) (nacked : ℕ) (s : Settings) (m : ℕ) (h : Header) (a : Response) (x : Option Record) → r.state ≡ NoContext nacked → counts s m r ≡ true → ¬ IsIr h.kind
    → LoneStep (Some r) s m h a x → Gives s h (fails r refusals.StateTooLow (after_low_state (limits s) m (NoContext nacked))) a x
low_fails r nacked s m h a x e counted other step =
    let here : counting s m (Some r) ≡ Some r = ap (λ b. if b then Some r else None) counted in
    let untaken : rule r.state h.kind h.first ≡ TooLow = subst (λ (st : State). rule st h.kind h.first ≡ TooLow) (sym e) (takes_no_other nacked h.kind h.first other) in
    let low = step_low (Some r) s m h a x step (step_untaken (Some r) s m h a x r here untaken step) in
    let same : low.0 ≡ r = (let f : Some low.0 ≡ Some r = sym low.1 ∙ here in cc) in
    subst (λ (st : State). Gives s h (fails r refusals.StateTooLow (after_low_state (limits s) m st)) a x) e
    (subst (λ (k : Record). Gives s h (fails k refusals.StateTooLow (after_low_state (limits s) m k.state)) a x) same low.3)

pub nacks_after_wait : NacksAfterWait
nacks_after_wait r nacked s m h a x e counted other late step =
    let low = low_fails r nacked s m h a x e counted other step in
    let due : nat_le s.static_nack_ms (m - nacked) ≡ true = le-leb s.static_nack_ms (m - nacked) (omega arith) in
    subst (λ b. Gives s h (fails r refusals.StateTooLow (if b then leads_to (NoContext m) dues.StaticNack else leads_to (NoContext nacked) dues.Nothing)) a x) due low

pub waits_to_nack : WaitsToNack
waits_to_nack r nacked s m h a x e counted other some early step =
    let low = low_fails r nacked s m h a x e counted other step in
    let undue : nat_le s.static_nack_ms (m - nacked) ≡ false = lt-leb s.static_nack_ms (m - nacked) (omega (arith, some)) in
    let stays = subst (λ b. Gives s h (fails r refusals.StateTooLow (if b then leads_to (NoContext m) dues.StaticNack else leads_to (NoContext nacked) dues.Nothing)) a x) undue low in
    (stays.0 ∙ ap (failed refusals.StateTooLow) (nothing_sent s.mode h), stays.1 ∙ ap (λ (st : State). Some (record { accepted = r.accepted; state = st })) (sym e))

-- ---- Idle records

idle_counts : (s : Settings) (m : ℕ) (r : Record) → s.idle_ms ≢ 0 → r.accepted + s.idle_ms ≤ m → counts s m r ≡ false
idle_counts s m r some late = grind (arith, nat_tests)

pub counts_until_idle : CountsUntilIdle
counts_until_idle r s m early = grind (arith, nat_tests)

-- the same without the record, and the record after it
abbrev Alone : (Ending → Type 0) → Record → Ending → Type 0
Alone P r e = (alone : Option Record) × P (record e { after = alone }) × (e.after ≡ Some (unwrap_or alone r))

-- what is refused leaves the record, and what is taken leaves its own
refuses_alone : (refusal : Refusal) (r : Record) (e : Ending) → e ≡ refuses refusal (Some r) → Alone (λ k. k ≡ refuses refusal None) r e
refuses_alone refusal r e p = (None, ap (λ (k : Ending). record k { after = None }) p, ap (λ (k : Ending). k.after) p)

taken_alone : (P : Ending → Type 0) (r q : Record) (e : Ending) → e.after ≡ Some q → P e → Alone P r e
taken_alone P r q e is p = (e.after, p, is ∙ ap (λ n. Some (unwrap_or n r)) (sym is))

renewed_alone : (a : Arrival) (content : IrContent) (r : Record) (e : Ending) → Renewed a None content e → Alone (Renewed a None content) r e
renewed_alone a (chain.Plain packet) r e p = taken_alone (Renewed a None (chain.Plain packet)) r _ e (ap (λ (k : Ending). k.after) p) p
renewed_alone a (chain.StaticOnly fixed) r e p = taken_alone (Renewed a None (chain.StaticOnly fixed)) r _ e (ap (λ (k : Ending). k.after) p) p
renewed_alone a (chain.Whole fixed moving payload) r e (octets, is, p) =
    taken_alone (Renewed a None (chain.Whole fixed moving payload)) r _ e (ap (λ (k : Ending). k.after) p) (octets, is, p)

renews_alone : (a : Arrival) (read : Result IrContent ChainRefusal) (r : Record) (e : Ending) → Renews a None (Some r) read e → Alone (Renews a None None read) r e
renews_alone a (Ok content) r e p = renewed_alone a content r e p
renews_alone a (Err refusal) r e p = refuses_alone (refusal_of (fault_of_chain refusal)) r e p

steps_alone : (a : Arrival) (kind : HeadKind) (r : Record) (e : Ending) → Steps kind None (Some r) a e → Alone (Steps kind None None a) r e
steps_alone a (Ir dynamic) r e p = renews_alone a (ir_at a.header) r e p
steps_alone a IrDyn r e p = refuses_alone refusals.NoContext r e p
steps_alone a Other r e p = refuses_alone refusals.NoContext r e p

pub idle_is_none : IdleIsNone
unfolding LoneStep
idle_is_none r s m h a x some late (e, steps, (told, next)) =
    let (alone, p, is) = steps_alone (arrival s m h) h.kind r e (subst (λ b. Steps h.kind (if b then Some r else None) (Some r) (arrival s m h) e) (idle_counts s m r some late) steps) in
    (alone, (record e { after = alone }, p, (told, refl)), next ∙ is)

-- ---- The second try

-- a try that is there if two tests hold
tried_if : (t : Try) (a b : Bool) → a ≡ true → b ≡ true → (if a && b then t ∷ [] else []) ≡ t ∷ []
tried_if t a b e f = rw (e, f) refl

untried_if : (t : Try) (a b : Bool) → b ≡ false → (if a && b then t ∷ [] else []) ≡ []
untried_if t true b f = rw f refl
untried_if t false b f = refl

pub tries_after_wait : TriesAfterWait
tries_after_wait r s m reference c short late =
    tried_if (record { reference = reference; shift = 2 ^ c.sn.count }) (has_short_check c.kind) _ short (le-leb (s.packet_ms * 2 ^ c.sn.count) (m - r.accepted) (omega arith))

pub waits_to_try : WaitsToTry
waits_to_try r s m reference c some early =
    untried_if (record { reference = reference; shift = 2 ^ c.sn.count }) (has_short_check c.kind) _
    (lt-leb (s.packet_ms * 2 ^ c.sn.count) (m - r.accepted) (sooner m r.accepted s.packet_ms (2 ^ c.sn.count) some (pow_pos c.sn.count) early)) where
      sooner : (m accepted p q : ℕ) → p ≢ 0 → 0 < q → m < accepted + p * q → m - accepted < p * q
      sooner m accepted p q some pos early = let product : p ≤ p * q = le-mul_of_pos_right {m = q} p pos in omega (arith, some)

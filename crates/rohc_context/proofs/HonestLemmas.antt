-- Arrivals that are taken for certain.
use Rattle.std.proofs.Common.{arith, ◌≡◌, ℕ, ◌-◌, [], ◌∷◌, true, Option, Some, None, inl, inr, refl, sym, ap, subst, ◌∙◌}
use Rattle.std.proofs.lemmas.Bool.Decides.{nat_tests}
use Rattle.std.specs.Prelude.{Ok, Bool, false, ◌≤◌, ◌&&◌, nat_le, is_some, unwrap_or, if◌then◌else◌}
use Rattle.rohc_forms.specs.Content.{Content}
use Rattle.rohc_context.specs.Settings.{limits}
use Rattle.rohc_context.proofs.Common.{nothing_sent, gives}
use Rattle.rohc_context.specs.Window.{and_outcome}
use Rattle.rohc_context.specs.NextReference.{without_marker, with_numbers, is_uo1_id, counts_once, next_reference, next_previous}
use Rattle.rohc_header.specs.declared.fields.Dynamic.{Dynamic}
use Rattle.rohc_context.specs.InForce.{in_force}
use Rattle.rohc_context.specs.Honest.{Held, held_by, Written, IsHonestPacket, IsInTime}
use Rattle.rohc_frame.specs.declared.header.HeadKind.{HeadKind}
use Rattle.rohc_frame.specs.declared.header.HeadKind.TheVariants.{Ir, IrDyn, Other}
use Rattle.rohc_frame.specs.Header.{Header}
use Rattle.rohc_chain.specs.Packets.{IsIr, ir_at, Plain as PlainPacket}
use Rattle.rohc_chain.proofs.TextLemmas.{ir_from_text}
use Rattle.rohc_context.specs.declared.due.Due.TheVariants as dues
use Rattle.rohc_context.specs.declared.reply.Outcome.TheVariants as outcomes
use Rattle.rohc_context.specs.declared.settings.Settings.{Settings}
use Rattle.rohc_context.specs.Record.{StaticContext, FullContext, Record}
use Rattle.rohc_context.specs.Response.{Response, delivered}
use Rattle.rohc_context.specs.Due.{sent}
use Rattle.rohc_context.specs.Laws.{MeansOne, TakesPlain, DeliversHonest, PromotesHonest, DeliversWritten}
use Rattle.rohc_context.specs.Renewal.{Renews}
use Rattle.rohc_context.specs.Tries.{Acceptance, static_tries, full_tries}
use Rattle.rohc_context.specs.Update.{said_under, promoted, updated}
use Rattle.rohc_context.specs.Step.{Update, TooLow, rule, counts, counting, Follows, Steps, Answers, arrival, LoneStep}
use Rattle.rohc_context.proofs.ExplainLemmas.{explains_some, explains_one}
use Rattle.rohc_context.proofs.UpdateLemmas.{judged}
use Rattle.rohc_context.proofs.StepLemmas.{step_one}

pub means_one_header : MeansOne
means_one_header first udp_sum stride_known fixed r shift c fixed_good good few =
    let (h, is) = explains_some first udp_sum stride_known fixed r shift c fixed_good good few in
    (h, is, λ other also. explains_one first udp_sum stride_known fixed r shift c other h good also is)

pub takes_plain : TakesPlain
unfolding LoneStep
takes_plain before s m h octet packet a x is text (e, steps, (told, next)) = go h.kind is (counting s m before) steps where
  Wanted : Type 0
  Wanted = (a.packet ≡ Some (record { head = []; payload = octet ∷ packet })) × (a.outcome ≡ outcomes.Delivered)

  answers : (c b : Option Record) → Renews (arrival s m h) c b (ir_at h) e → Wanted
  answers c b p =
      let f = subst (λ r. Renews (arrival s m h) c b r e) (ir_from_text h (PlainPacket (octet ∷ packet)) text tt) p in
      let given = (gives s h e _ a x f (told, next)).0 in
      (ap (λ (r : Response). r.packet) given, ap (λ (r : Response). r.outcome) given)

  go : (kind : HeadKind) → IsIr kind → (c : Option Record) → Steps kind c before (arrival s m h) e → Wanted
  go (Ir dynamic) is None p = answers None before p
  go (Ir dynamic) is (Some r) p = answers (Some r) (Some r) p
  go IrDyn is c p = absurd is
  go Other is c p = absurd is

-- the honest step's answer and next record are a step's
honest : (s : Settings) (m : ℕ) (h : Header) (r : Record) (response : Response) (next : Option Record) → h.kind ≡ Other → counts s m r ≡ true
    → Answers s h (Follows (rule r.state Other h.first) (arrival s m h) r) response next → LoneStep (Some r) s m h response next
unfolding LoneStep
honest s m h r response next is counted p =
    subst (λ k. Answers s h (Steps k (if counts s m r then Some r else None) (Some r) (arrival s m h)) response next) (sym is)
    (subst (λ b. Answers s h (Steps Other (if b then Some r else None) (Some r) (arrival s m h)) response next) (sym counted) p)

pub delivers_honest : DeliversHonest
delivers_honest accepted fixed reference previous window s m h c e response next is all read few fits counted step =
    let r : Record = record { accepted = accepted; state = FullContext fixed reference previous window } in
    let a : Acceptance = record { content = c; reference = reference; header = e } in
    let tries = full_tries (limits s) (m - accepted) reference previous in
    let verdict = judged fixed tries (said_under h reference) c (Ok a) read few (inl (e, fits, refl)) in
    let same = step_one (Some r) s m h response _ next _ all step (honest s m h r (delivered e.octets c.payload (sent s.mode h dues.Nothing)) _ is counted (_, (Ok a, verdict, refl), (refl, refl))) in
    (same.0 ∙ ap (λ feedback. delivered e.octets c.payload feedback) (nothing_sent s.mode h), same.1)

high_is : (first : ℕ) → 192 ≤ first → nat_le 192 first ≡ true
high_is first high = grind (arith, nat_tests)

-- a header's SN is the next reference's
next_sn : (a : Acceptance) → (next_reference a).moving.sn ≡ a.header.moving.sn
next_sn a = which (counts_once a.content) where
  which : (b : Bool) → (if b then with_numbers a.reference.moving a.header.moving else without_marker a.header.moving).sn ≡ a.header.moving.sn
  which true = refl
  which false = refl

pub promotes_honest : PromotesHonest
promotes_honest accepted fixed reference first second s m h c e response next is high all read few fits counted step =
    let r : Record = record { accepted = accepted; state = StaticContext fixed (Some reference) first second } in
    let a : Acceptance = record { content = c; reference = reference; header = e } in
    let verdict = judged fixed (λ c. static_tries reference) (said_under h reference) c (Ok a) read few (inl (e, fits, refl)) in
    let answer : Response = delivered e.octets c.payload (sent s.mode h (dues.Ack (next_reference a).moving.sn)) in
    let after : Option Record = Some (record { accepted = m; state = promoted fixed a }) in
    let follows : Answers s h (Follows (rule r.state Other h.first) (arrival s m h) r) answer after =
    subst (λ b. Answers s h (Follows (if b then Update else TooLow) (arrival s m h) r) answer after) (sym (high_is h.first high)) (_, (Ok a, verdict, refl), (refl, refl)) in
    let same = step_one (Some r) s m h response answer next after all step (honest s m h r answer after is counted follows) in
    (same.0 ∙ ap (λ sn. delivered e.octets c.payload (sent s.mode h (dues.Ack sn))) (next_sn a), same.1)

-- ---- A packet of a sender

in_time_counts : (s : Settings) (m : ℕ) (r : Record) → IsInTime s r.accepted m → counts s m r ≡ true
in_time_counts s m r (inl never) = grind (arith, nat_tests)
in_time_counts s m r (inr soon) = grind (arith, nat_tests)

-- without an extension 3 a packet's values don't count once
not_once : (c : Content) → c.values ≡ None → counts_once c ≡ false
not_once c e = which (is_uo1_id c.kind) where
  which : (b : Bool) → b && is_some c.values ≡ false
  which true = ap is_some e
  which false = refl

-- the reference after a packet without an extension 3 is its header taken as the reference
next_is_held : (held : Held) (p : Written) → IsHonestPacket held p
    → next_reference (record { content = p.content; reference = held.reference; header = p.header }) ≡ (held_by held p.header).reference
next_is_held held p w =
    let kept = held.reference.moving in
    let given : Dynamic = p.header.moving in
    let plain : in_force kept p.content.values ≡ kept = ap (λ v. in_force kept v) w.no_values in
    let others : given ≡ record kept { sn = given.sn; ts = given.ts; id = given.id; udp_sum = unwrap_or p.content.udp_sum 0; marker = p.content.marker } =
    w.fits.explained.fields.whole ∙ ap (λ (d : Dynamic). record d { sn = given.sn; ts = given.ts; id = given.id; udp_sum = unwrap_or p.content.udp_sum 0; marker = p.content.marker }) plain in
    let with : Bool → Bool → Option ℕ → Dynamic = λ rnd nbo stride. record (without_marker given) { rnd = rnd; nbo = nbo; stride = stride } in
    let numbered : without_marker given ≡ with kept.rnd kept.nbo kept.stride =
    ap (λ rnd. with rnd given.nbo given.stride) (ap (λ (d : Dynamic). d.rnd) others)
    ∙ ap (λ nbo. with kept.rnd nbo given.stride) (ap (λ (d : Dynamic). d.nbo) others)
    ∙ ap (λ stride. with kept.rnd kept.nbo stride) (ap (λ (d : Dynamic). d.stride) others) in
    rw (not_once p.content w.no_values) (ap (λ moving. record { moving = moving; carries_sum = held.reference.carries_sum }) numbered)

pub delivers_written : DeliversWritten
delivers_written held before s m p response next (previous, window, is) w soon step =
    let full : Record = record { accepted = before.accepted; state = FullContext held.fixed held.reference previous window } in
    let same : before ≡ full = ap (λ state. record { accepted = before.accepted; state = state }) is in
    let a : Acceptance = record { content = p.content; reference = held.reference; header = p.header } in
    let went = delivers_honest before.accepted held.fixed held.reference previous window s m p.packet p.content p.header response next w.kind w.octets w.said w.few w.fits
    (in_time_counts s m full soon) (subst (λ r. LoneStep (Some r) s m p.packet response next) same step) in (
      went.0,
      (
        record { accepted = m; state = updated held.fixed held.reference window a },
        went.1,
        refl,
        (next_previous held.reference a, and_outcome false window, ap (λ r. FullContext held.fixed r (next_previous held.reference a) (and_outcome false window)) (next_is_held held p w)),
      ),
    )

-- A packet that fits by the first try is taken as any packet of kind Other.
use Rattle.std.proofs.Common.{◌≡◌, ℕ, ◌-◌, Bool, true, false, List, Option, Some, None, refl, sym, ap, subst, ◌∙◌}
use Rattle.std.specs.Prelude.{Ok, if◌then◌else◌, ◌&&◌, is_some, option_map, unwrap_or}
use Rattle.std.proofs.lemmas.Bool.{eq-eqb, false≢true}
use Rattle.rohc_frame.specs.Header.{Header}
use Rattle.rohc_header.specs.declared.fields.Static.{Static}
use Rattle.rohc_header.specs.declared.fields.Dynamic.{Dynamic}
use Rattle.rohc_forms.specs.declared.form.Values.{Values}
use Rattle.rohc_forms.specs.Content.{Content}
use Rattle.rohc_forms.specs.Packets.{values_by}
use Rattle.rohc_context.specs.Settings.{limits}
use Rattle.rohc_context.specs.declared.settings.Settings.{Settings}
use Rattle.rohc_context.specs.Explains.{Means}
use Rattle.rohc_context.specs.InForce.{in_force}
use Rattle.rohc_context.specs.NextReference.{without_marker, with_numbers, is_uo1_id, counts_once, next_moving, same_flag, same_stride, kept_previous}
use Rattle.rohc_context.specs.Record.{Reference, State, FullContext, Record}
use Rattle.rohc_context.specs.Response.{Response, delivered}
use Rattle.rohc_context.specs.Window.{and_outcome}
use Rattle.rohc_context.specs.Tries.{Acceptance, full_tries}
use Rattle.rohc_context.specs.Update.{said_under, Judges, updated}
use Rattle.rohc_context.specs.Step.{counts, counting, Steps, Answers, arrival, LoneStep}
use Rattle.rohc_frame.specs.declared.header.HeadKind.{HeadKind}
use Rattle.rohc_frame.specs.declared.header.HeadKind.TheVariants.{Other}
use Rattle.rohc_context.proofs.UpdateLemmas.{updated_is, delivers_silently}

-- a form without the values of an extension 3 says none
pub no_values : (values : Option Values) → is_some values ≡ false → option_map values_by values ≡ None
no_values None e = refl
no_values (Some values) e = absurd (false≢true (sym e))

-- what is accepted
abbrev pub accepted : Reference → Content → Dynamic → List ℕ → Acceptance
accepted r c moving octets = record { content = c; reference = r; header = record { moving = moving; octets = octets } }

-- the reference takes over the numbers
numbers_are : (kept moving : Dynamic) (sum : ℕ) (marker : Bool) → kept.marker ≡ false
    → moving ≡ record kept { sn = moving.sn; ts = moving.ts; id = moving.id; udp_sum = sum; marker = marker }
    → with_numbers kept moving ≡ without_marker moving
numbers_are kept moving sum marker unmarked others =
    let sums : moving.udp_sum ≡ sum = ap (λ (d : Dynamic). d.udp_sum) others in
    ap (λ m. record kept { sn = moving.sn; ts = moving.ts; id = moving.id; udp_sum = moving.udp_sum; marker = m }) unmarked
    ∙ ap (λ u. record kept { sn = moving.sn; ts = moving.ts; id = moving.id; udp_sum = u; marker = false }) sums
    ∙ sym (ap without_marker others)

flag_stays : (b : Bool) → same_flag b b ≡ true
flag_stays true = refl
flag_stays false = refl

stride_stays : (stride : Option ℕ) → same_stride stride stride ≡ true
stride_stays None = refl
stride_stays (Some n) = eq-eqb n n refl

-- RND, NBO and stride stay
previous_is : (held by : Reference) (moving : Dynamic) → Some by ≡ kept_previous held (with_numbers held.moving moving) by
previous_is held by moving = rw (flag_stays held.moving.rnd, flag_stays held.moving.nbo, stride_stays held.moving.stride) refl

and_false : (b : Bool) → (b && false) ≡ false
and_false true = refl
and_false false = refl

-- Without an extension 3 the state follows by the numbers alone, if it was decoded against a reference that differs from
-- the held one in no more.
pub follows : (fixed : Static) (held by : Reference) (shift : ℕ) (c : Content) (moving : Dynamic) (octets : List ℕ) (window : List Bool)
    → c.values ≡ None → held.moving.marker ≡ false → by.carries_sum ≡ held.carries_sum → with_numbers by.moving moving ≡ with_numbers held.moving moving → Means by shift c moving
    → FullContext fixed (record { moving = with_numbers held.moving moving; carries_sum = held.carries_sum }) (Some by) (and_outcome false window)
    ≡ updated fixed held window (accepted by c moving octets)
follows fixed held by shift c moving octets window none unmarked sums alike means =
    let next : Reference = record { moving = with_numbers held.moving moving; carries_sum = held.carries_sum } in
    let others = means.whole ∙ ap (λ v. record (in_force by.moving v) { sn = moving.sn; ts = moving.ts; id = moving.id; udp_sum = unwrap_or c.udp_sum 0; marker = c.marker }) none
    ∙ ap (λ (m : Dynamic). record m { udp_sum = unwrap_or c.udp_sum 0; marker = c.marker }) alike in
    let once : counts_once c ≡ false = ap (λ v. is_uo1_id c.kind && is_some v) none ∙ and_false (is_uo1_id c.kind) in
    let numbers = numbers_are held.moving moving (unwrap_or c.udp_sum 0) c.marker unmarked others
    ∙ ap (λ b. if b then with_numbers by.moving moving else without_marker moving) (sym once) in
    updated_is fixed held next window (and_outcome false window) (Some by) (accepted by c moving octets)
    (ap (λ m. record { moving = m; carries_sum = held.carries_sum }) numbers ∙ ap (λ sum. record { moving = next_moving (accepted by c moving octets); carries_sum = sum }) (sym sums))
    (previous_is held by moving) refl

-- A record that counts, in Full Context, takes it as its step.
pub lone_first : (s : Settings) (m : ℕ) (h : Header) (before : ℕ) (st : State) (fixed : Static) (reference : Reference) (previous : Option Reference) (window : List Bool)
    (a : Acceptance) (response : Response) (left : State) → st ≡ FullContext fixed reference previous window → h.kind ≡ Other
    → counts s m (record { accepted = before; state = st }) ≡ true
    → Judges fixed (full_tries (limits s) (m - before) reference previous) (said_under h reference) (Ok a)
    → response ≡ delivered a.header.octets a.content.payload None → left ≡ updated fixed reference window a
    → LoneStep (Some (record { accepted = before; state = st })) s m h response (Some (record { accepted = m; state = left }))
unfolding LoneStep
lone_first s m h before st fixed reference previous window a response left e kind counts_as judges f g =
    let next : Option Record = Some (record { accepted = m; state = left }) in
    let full : Record = record { accepted = before; state = FullContext fixed reference previous window } in
    let counting_is : counts s m full ≡ true = counts_as in
    let Under : HeadKind → Option Record → Type 0 = λ kind c. Answers s h (Steps kind c (Some full) (arrival s m h)) response next in
    let follows : Under Other (Some full) = (_, (Ok a, judges, refl), delivers_silently s m h full (updated fixed reference window) a response left f g) in
    let counted : Under Other (counting s m (Some full)) = subst (λ b. Under Other (if b then Some full else None)) (sym counting_is) follows in
    subst (λ x. LoneStep (Some (record { accepted = before; state = x })) s m h response next) (sym e) (subst (λ k. Under k (counting s m (Some full))) (sym kind) counted)

-- A step answers as its tries are shown.
use Rattle.std.proofs.Common.{◌≡◌, ◌≢◌, ℕ, ◌-◌, inl, inr, Bool, true, false, List, [], ◌∷◌, length, Option, Some, None, refl, sym, ap, subst, ◌∙◌, arith}
use Rattle.std.specs.Prelude.{Result, Ok, Err, All, ◌*◌, ◌^◌, ◌++◌, ◌&&◌, ◌==◌, nat_lt, nat_le, map, is_some, if◌then◌else◌}
use Rattle.std.proofs.lemmas.Bool.Decides.{nat_tests}
use Rattle.rohc_bits.specs.Bits.{IsOctet}
use Rattle.rohc_frame.specs.declared.header.HeadKind.{HeadKind}
use Rattle.rohc_frame.specs.declared.header.HeadKind.TheVariants.{Ir, IrDyn, Other}
use Rattle.rohc_frame.specs.Header.{Header}
use Rattle.rohc_header.specs.declared.fields.Static.{Static}
use Rattle.rohc_forms.specs.declared.refusal.FormRefusal.{FormRefusal}
use Rattle.rohc_forms.specs.Content.{Content}
use Rattle.rohc_forms.specs.Packets.{content}
use Rattle.rohc_context.specs.declared.due.Due.{Due}
use Rattle.rohc_context.specs.declared.due.Due.TheVariants.{Nothing}
use Rattle.rohc_context.specs.declared.fault.Fault.{Fault}
use Rattle.rohc_context.specs.declared.fault.Fault.TheVariants.{Unfit, Refused}
use Rattle.rohc_context.specs.declared.refusal.Refusal.TheVariants as refusals
use Rattle.rohc_context.specs.declared.reply.Outcome.TheVariants as outcomes
use Rattle.rohc_context.specs.declared.settings.Settings.{Settings}
use Rattle.rohc_context.specs.declared.shown.NotMade.{NotMade}
use Rattle.rohc_context.specs.declared.shown.Meant.{Meant}
use Rattle.rohc_context.specs.declared.shown.Tries.{Tries}
use Rattle.rohc_context.specs.declared.shown.Untried.{Untried}
use Rattle.rohc_context.specs.declared.shown.Untried.TheVariants as untried
use Rattle.rohc_context.specs.Record.{Reference, State, Plain, NoContext, StaticContext, FullContext, Record}
use Rattle.rohc_context.specs.Response.{Response, delivered}
use Rattle.rohc_context.specs.Due.{sent}
use Rattle.rohc_context.specs.Faults.{fault_of_form}
use Rattle.rohc_context.specs.Settings.{Limits, limits}
use Rattle.rohc_context.specs.Outcomes.{Ending, refusal_of, ends}
use Rattle.rohc_context.specs.Explains.{Explained}
use Rattle.rohc_context.specs.Tries.{Try, Acceptance, Verdict, unshifted, has_short_check, second_tries, third_tries, static_tries, full_tries}
use Rattle.rohc_context.specs.Update.{said_under, VerdictUnless, Judges, settled, promoted, updated, acknowledged, silent, Updates}
use Rattle.rohc_context.specs.Step.{Rule, Renew, Refresh, Update, TooLow, rule, counts, Follows, Steps, arrival, LoneStep}
use Rattle.rohc_context.specs.Shown.{Plan, plan, no_second, no_third, full_plans, static_plans, is_fit, fits_by, result_of, AreShown, ShowsUnless, ShowsRead, ShowsBy, ShowsByRule, ShowsCounted, ShowsKind, Shows}
use Rattle.rohc_context.specs.ShownLaws.{first_fit, IsAnsweredBy, IsAnswered, AnswersAsShown}
use Rattle.rohc_context.proofs.Cases.{Trying, trying, Tried}
use Rattle.rohc_context.proofs.StepLemmas.{form_reads}
use Rattle.rohc_context.proofs.TryLemmas.{judges_one}

-- ---- The tries of plans are those of the definitions

-- the tries that are planned
abbrev made : List Plan → List Try
made [] = []
made (Ok t ∷ more) = t ∷ made more
made (Err reason ∷ more) = made more

-- none or one
abbrev AreFew : List Try → Type 0
AreFew [] = Unit {0}
AreFew (t ∷ []) = Unit {0}
AreFew (t ∷ u ∷ more) = ⊥

made_plan : (tries : List Try) (reason : NotMade) (more : List Plan) → AreFew tries → made (plan tries reason ∷ more) ≡ tries ++ made more
made_plan [] reason more few = refl
made_plan (t ∷ []) reason more few = refl
made_plan (t ∷ u ∷ rest) reason more few = absurd few

few_if : (b : Bool) (t : Try) → AreFew (if b then t ∷ [] else [])
few_if true t = tt
few_if false t = tt

few_third : (previous : Option Reference) (c : Content) → AreFew (third_tries previous c)
few_third None c = tt
few_third (Some p) c = few_if (has_short_check c.kind) (unshifted p)

none_after : (tries : List Try) → tries ++ [] ≡ tries
none_after [] = refl
none_after (t ∷ more) = ap (λ ts. t ∷ ts) (none_after more)

full_made : (l : Limits) (passed : ℕ) (reference : Reference) (previous : Option Reference) (c : Content)
    → made (full_plans l passed reference previous c) ≡ full_tries l passed reference previous c
full_made l passed reference previous c =
    let second = second_tries l passed reference c in
    let third = third_tries previous c in
    let last = made_plan third (no_third c) [] (few_third previous c) ∙ none_after third in
    let few = few_if (has_short_check c.kind && nat_le (l.packet_ms * 2 ^ c.sn.count) passed) (record { reference = reference; shift = 2 ^ c.sn.count }) in
    ap (λ ts. unshifted reference ∷ ts) (made_plan second (no_second l passed c) (plan third (no_third c) ∷ []) few ∙ ap (λ ts. second ++ ts) last)

-- ---- The verdict by what is shown

abbrev IsVerdictBy : Option Meant → Content → Result Acceptance Fault → Type 0
IsVerdictBy (Some m) c (Ok a) = (a.header.octets ≡ m.header.octets) × (a.content ≡ c)
IsVerdictBy (Some m) c (Err fault) = ⊥
IsVerdictBy None c (Ok a) = ⊥
IsVerdictBy None c (Err fault) = fault ≡ Unfit

abbrev IsVerdictOf : Result Tries Untried → Result Acceptance Fault → Type 0
IsVerdictOf (Ok shown) verdict = IsVerdictBy (first_fit (map result_of shown.tries)) (content shown.form) verdict
IsVerdictOf (Err untried.Whole) verdict = ⊥
IsVerdictOf (Err untried.Plain) verdict = ⊥
IsVerdictOf (Err (untried.Refused refusal)) (Ok a) = ⊥
IsVerdictOf (Err (untried.Refused refusal)) (Err fault) = refusal_of fault ≡ refusal

same_check : (m : Meant) → is_fit m ≡ true → m.has ≡ m.needs
same_check m e = let f : (m.has == m.needs) ≡ true = e in grind (arith, nat_tests)

other_check : (m : Meant) → is_fit m ≡ false → m.has ≢ m.needs
other_check m e = λ same. let f : (m.has == m.needs) ≡ false = e in grind (arith, nat_tests)

shown_by : (fixed : Static) (c : Content) (plans : List Plan) (results : List (Result Meant NotMade)) → AreShown fixed c false plans results
    → (verdict : Result Acceptance Fault) × Verdict fixed c (made plans) verdict × IsVerdictBy (first_fit results) c verdict
shown_by fixed c [] [] is = (Err Unfit, refl, refl)
shown_by fixed c [] (x ∷ others) is = absurd is
shown_by fixed c (Ok t ∷ more) [] is = absurd is
shown_by fixed c (Err reason ∷ more) [] is = absurd is
shown_by fixed c (Err reason ∷ more) (x ∷ others) (is, rest) =
    let (verdict, v, by) = shown_by fixed c more others (subst (λ y. AreShown fixed c (fits_by y) more others) is rest) in
    (verdict, v, subst (λ y. IsVerdictBy (first_fit (y ∷ others)) c verdict) (sym is) by)
shown_by fixed c (Ok t ∷ more) (x ∷ others) ((m, is, makes), rest) =
    subst Goal (sym is) (which (λ left. shown_by fixed c more others left) (is_fit m) refl (subst (λ y. AreShown fixed c (fits_by y) more others) is rest))
  where
    Goal : Result Meant NotMade → Type 0
    Goal y = (verdict : Result Acceptance Fault) × Verdict fixed c (t ∷ made more) verdict × IsVerdictBy (first_fit (y ∷ others)) c verdict

    header : Explained
    header = record { moving = m.moving; octets = m.header.octets }

    accepted : Acceptance
    accepted = record { content = c; reference = t.reference; header = header }

    by : Result Acceptance Fault → Bool → Type 0
    by verdict b = IsVerdictBy (if b then Some m else first_fit others) c verdict

    which : (AreShown fixed c false more others → (verdict : Result Acceptance Fault) × Verdict fixed c (made more) verdict × IsVerdictBy (first_fit others) c verdict)
        → (b : Bool) → is_fit m ≡ b → AreShown fixed c b more others → Goal (Ok m)
    which later true e left =
        let checked = sym makes.has ∙ same_check m e ∙ makes.needs in
        (Ok accepted, inl (header, record { explained = makes.explained; checked = checked }, refl), subst (by (Ok accepted)) (sym e) (refl, refl))
    which later false e left =
        let (verdict, v, found) = later left in (
          verdict,
          inr (record { header = header; explained = makes.explained; unchecked = λ same. other_check m e (makes.has ∙ same ∙ sym makes.needs) }, v),
          subst (by verdict) (sym e) found,
        )

-- what is read comes to the verdict that is shown
read_shown : (fixed : Static) (plans : Content → List Plan) (tries : Content → List Try) (read : Result Content FormRefusal) (shown : Result Tries Untried)
    → ((c : Content) → made (plans c) ≡ tries c) → ShowsRead fixed plans read shown
    → (verdict : Result Acceptance Fault) × Judges fixed tries read verdict × IsVerdictOf shown verdict
read_shown fixed plans tries (Err refusal) shown same is =
    let fault = fault_of_form refusal in
    (Err fault, refl, subst (λ k. IsVerdictOf k (Err fault)) (sym is) refl)
read_shown fixed plans tries (Ok c) shown same is = go (nat_lt 65495 (length c.payload)) is where
  go : (long : Bool) → ShowsUnless long fixed c (plans c) shown → (verdict : Result Acceptance Fault) × VerdictUnless long fixed c (tries c) verdict × IsVerdictOf shown verdict
  go true e = (Err (Refused refusals.TooLong), refl, subst (λ k. IsVerdictOf k (Err (Refused refusals.TooLong))) (sym e) refl)
  go false (found, e, shows) =
      let (verdict, v, by) = shown_by fixed c (plans c) (map result_of found.tries) shows.results in (
        verdict,
        subst (λ ts. Verdict fixed c ts verdict) (same c) v,
        subst (λ k. IsVerdictOf k verdict) (sym e) (subst (λ k. IsVerdictBy (first_fit (map result_of found.tries)) k verdict) (sym shows.form) by),
      )

-- ---- The answer by the verdict

module _ (s : Settings) (m : ℕ) (h : Header) (r : Record) (shown : Result Tries Untried) where
  -- the answer of this ending is the one that is shown
  abbrev EndsAsShown : Ending → Type 0
  EndsAsShown ending = IsAnswered h shown (record ending.answer { feedback = sent s.mode h ending.due })

  told : (k : Result Tries Untried) (answer : Response) → shown ≡ k → IsAnswered h k answer → IsAnswered h shown answer
  told k answer e = subst (λ z. IsAnswered h z answer) (sym e)

  ends_by : (fault : Fault) → (ends (arrival s m h) (Some r) (Some r) fault).answer.outcome ≡ outcomes.Refused (refusal_of fault)
  ends_by (Refused refusal) = refl
  ends_by Unfit = refl

  module _ (state : Acceptance → State) (due : Acceptance → Due) where
    abbrev given : Result Acceptance Fault → Response
    given verdict = let ending = settled (arrival s m h) r state due verdict in record ending.answer { feedback = sent s.mode h ending.due }

    answered_by : (found : Option Meant) (c : Content) (verdict : Result Acceptance Fault) → IsVerdictBy found c verdict → IsAnsweredBy found c (given verdict)
    answered_by (Some n) c (Ok v) (e, f) =
        let feedback = sent s.mode h (due v) in
        (feedback, ap (λ octets. delivered octets v.content.payload feedback) e ∙ ap (λ (k : Content). delivered n.header.octets k.payload feedback) f)
    answered_by (Some n) c (Err fault) is = absurd is
    answered_by None c (Ok v) is = absurd is
    answered_by None c (Err fault) is = ends_by fault ∙ ap (λ f. outcomes.Refused (refusal_of f)) is

    answered : (k : Result Tries Untried) (verdict : Result Acceptance Fault) → IsVerdictOf k verdict → IsAnswered h k (given verdict)
    answered (Ok found) verdict is = answered_by (first_fit (map result_of found.tries)) (content found.form) verdict is
    answered (Err untried.Whole) verdict is = absurd is
    answered (Err untried.Plain) verdict is = absurd is
    answered (Err (untried.Refused refusal)) (Ok v) is = absurd is
    answered (Err (untried.Refused refusal)) (Err fault) is = ends_by fault ∙ ap outcomes.Refused is

  module _ (all : All IsOctet h.rest) where
    tried_answered : (fixed : Static) (reference : Reference) (t : Trying) (plans : Content → List Plan) → ((c : Content) → made (plans c) ≡ t.tries c)
        → ShowsRead fixed plans (said_under h reference) shown → (ending : Ending) → Tried (arrival s m h) r fixed reference t ending → EndsAsShown ending
    tried_answered fixed reference t plans same shows ending (verdict, judges, e) =
        let (found, judged, is) = read_shown fixed plans t.tries (said_under h reference) shown same shows in
        let one = judges_one h.first reference.carries_sum (is_some reference.moving.stride) fixed t.tries (said_under h reference) found verdict (form_reads h reference all) judged judges in
        subst EndsAsShown (sym e) (answered t.state t.due shown verdict (subst (IsVerdictOf shown) one is))

    by_state : (state : State) → ShowsBy (limits s) (m - r.accepted) h state shown → (ending : Ending) → Updates (arrival s m h) r state ending → EndsAsShown ending
    by_state Plain e ending p = subst EndsAsShown (sym p) (told (Err untried.Plain) _ e (sent s.mode h Nothing, refl))
    by_state (NoContext nacked) e ending p = absurd p
    by_state (StaticContext fixed None first second) e ending p = absurd p
    by_state (StaticContext fixed (Some reference) first second) e ending p =
        tried_answered fixed reference (trying (λ c. static_tries reference) (promoted fixed) acknowledged) (λ c. static_plans reference) (λ c. refl) e ending p
    by_state (FullContext fixed reference previous window) e ending p =
        let passed = m - r.accepted in
        tried_answered fixed reference (trying (full_tries (limits s) passed reference previous) (updated fixed reference window) silent)
        (full_plans (limits s) passed reference previous) (full_made (limits s) passed reference previous) e ending p

    by_rule : (its : Rule) → ShowsByRule its (limits s) (m - r.accepted) h r.state shown → (ending : Ending) → Follows its (arrival s m h) r ending → EndsAsShown ending
    by_rule TooLow e ending p = subst EndsAsShown (sym p) (told (Err (untried.Refused refusals.StateTooLow)) _ e refl)
    by_rule Update e ending p = by_state r.state e ending p
    by_rule Renew e ending p = absurd e
    by_rule Refresh e ending p = absurd e

    by_count : (counted : Bool) → ShowsCounted counted s m h r shown → (ending : Ending) → Steps Other (if counted then Some r else None) (Some r) (arrival s m h) ending
        → EndsAsShown ending
    by_count false e ending p = subst EndsAsShown (sym p) (told (Err (untried.Refused refusals.NoContext)) _ e refl)
    by_count true e ending p = by_rule (rule r.state Other h.first) e ending p

    by_kind : (kind : HeadKind) → ShowsKind kind s m h r shown → (ending : Ending) → Steps kind (if counts s m r then Some r else None) (Some r) (arrival s m h) ending
        → EndsAsShown ending
    by_kind (Ir dynamic) e ending p = told (Err untried.Whole) _ e tt
    by_kind IrDyn e ending p = told (Err untried.Whole) _ e tt
    by_kind Other e ending p = by_count (counts s m r) e ending p

pub answers_as_shown : AnswersAsShown
unfolding LoneStep Shows
answers_as_shown r s m h shown a x all shows (ending, steps, gives) = subst (IsAnswered h shown) (sym gives.0) (by_kind s m h r shown all h.kind shows ending steps)

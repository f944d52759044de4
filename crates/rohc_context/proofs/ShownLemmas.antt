-- What is shown of a packet's tries, and how a step answers by it.
use Rattle.std.proofs.Common.{◌≡◌, ◌≢◌, ℕ, ◌≤◌, Bool, true, false, List, [], ◌∷◌, length, Option, refl, sym, ap, subst, ◌∙◌, arith, rules}
use Rattle.std.specs.Prelude.{Result, Ok, Err, ◌||◌, nat_lt, map}
use Rattle.std.specs.Result.{IsErr, IsErrAnd}
use Rattle.std.proofs.lemmas.Bool.Decides.{nat_tests}
use Rattle.rohc_header.specs.declared.fields.Static.{Static}
use Rattle.rohc_forms.specs.declared.refusal.FormRefusal.{FormRefusal}
use Rattle.rohc_forms.specs.Content.{Content}
use Rattle.rohc_forms.specs.Packets.{content}
use Rattle.rohc_context.specs.declared.fault.Fault.{Fault}
use Rattle.rohc_context.specs.declared.fault.Fault.TheVariants.{Unfit, Refused}
use Rattle.rohc_context.specs.declared.refusal.Refusal.TheVariants as refusals
use Rattle.rohc_context.specs.declared.shown.NotMade.{NotMade}
use Rattle.rohc_context.specs.declared.shown.Meant.{Meant}
use Rattle.rohc_context.specs.declared.shown.Tries.{Tries}
use Rattle.rohc_context.specs.declared.shown.Untried.{Untried}
use Rattle.rohc_context.specs.declared.shown.Untried.TheVariants as untried
use Rattle.rohc_context.specs.Faults.{fault_of_form}
use Rattle.rohc_context.specs.Outcomes.{refusal_of}
use Rattle.rohc_context.specs.Tries.{Try, Acceptance}
use Rattle.rohc_context.specs.Update.{VerdictUnless, Judges}
use Rattle.rohc_forms.specs.declared.form.Form.{Form}
use Rattle.rohc_context.specs.Settings.{Limits}
use Rattle.rohc_context.specs.declared.shown.NotMade.TheVariants.{OneTry}
use Rattle.rohc_context.specs.declared.shown.Try as code
use Rattle.rohc_context.specs.Record.{Reference}
use Rattle.rohc_context.specs.Tries.{unshifted, second_tries, third_tries}
use Rattle.rohc_context.specs.Shown.{Plan, plan, no_second, no_third, full_plans, static_plans, places, place_of, result_of, Makes, is_fit, fits_by, IsShown, AreShown, ShowsForm, ShowsUnless, ShowsRead}

short : (n : ℕ) → n ≤ 65495 → nat_lt 65495 n ≡ false
short n h = grind (arith, nat_tests)

-- three results in their order
pub three_shown : (fixed : Static) (c : Content) (p q r : Plan) (x y z : Result Meant NotMade)
    → IsShown fixed c false p x → IsShown fixed c (fits_by x) q y → IsShown fixed c (fits_by x || fits_by y) r z
    → AreShown fixed c false (p ∷ q ∷ r ∷ []) (x ∷ y ∷ z ∷ [])
three_shown fixed c p q r x y z first second third = (first, (second, (third, tt)))

-- a packet that is read and isn't too long
pub form_shown : (fixed : Static) (plans : Content → List Plan) (read : Result Content FormRefusal) (shown : Tries) (c : Content)
    → read ≡ Ok c → length c.payload ≤ 65495 → ShowsForm fixed c (plans c) shown → ShowsRead fixed plans read (Ok shown)
form_shown fixed plans read shown c e few is =
    let unless : ShowsUnless false fixed c (plans c) (Ok shown) = (shown, refl, is) in
    subst (λ r. ShowsRead fixed plans r (Ok shown)) (sym e)
    (subst (λ b. ShowsUnless b fixed c (plans c) (Ok shown)) (sym (short (length c.payload) few)) unless)

err_is : (a b : Fault) → (let x : Result Acceptance Fault = Err a in x) ≡ Err b → a ≡ b
err_is a b e = cc

-- a refusal of a form is no failed check
pub form_refused : (refusal : FormRefusal) → fault_of_form refusal ≢ Unfit
form_refused refusal = search rules

-- a packet that is refused as it is read
refusal_read : (fixed : Static) (plans : Content → List Plan) (read : Result Content FormRefusal) (fault : Fault)
    → ((fixed : Static) (tries : Content → List Try) → Judges fixed tries read (Err fault)) → fault ≢ Unfit
    → ShowsRead fixed plans read (Err (untried.Refused (refusal_of fault)))
refusal_read fixed plans (Err refusal) fault judges refused =
    ap (λ f. Err (untried.Refused (refusal_of f))) (err_is fault (fault_of_form refusal) (judges fixed (λ c. [])))
refusal_read fixed plans (Ok c) fault judges refused = go (nat_lt 65495 (length c.payload)) (judges fixed (λ c. [])) where
  go : (long : Bool) → VerdictUnless long fixed c [] (Err fault) → ShowsUnless long fixed c (plans c) (Err (untried.Refused (refusal_of fault)))
  go true e = ap (λ f. Err (untried.Refused (refusal_of f))) (err_is fault (Refused refusals.TooLong) e)
  go false e = absurd (refused (err_is fault Unfit e))

pub refusal_shown : (fixed : Static) (plans : Content → List Plan) (read : Result Content FormRefusal) (fault : Fault) (result : Result Tries Untried)
    → ((fixed : Static) (tries : Content → List Try) → Judges fixed tries read (Err fault)) → fault ≢ Unfit
    → IsErr result × IsErrAnd result (λ u. u ≡ untried.Refused (refusal_of fault)) → ShowsRead fixed plans read result
refusal_shown fixed plans read fault (Ok shown) judges refused is = absurd is.1
refusal_shown fixed plans read fault (Err u) judges refused is =
    subst (λ x. ShowsRead fixed plans read (Err x)) (sym is.1) (refusal_read fixed plans read fault judges refused)

-- ---- The tries of a form

-- the tries of a form, by its plans
form_by : (fixed : Static) (plans : Content → List Plan) (read : Result Content FormRefusal) (form : Form) (tries : List code.Try) (results : List (Result Meant NotMade))
    → read ≡ Ok (content form) → length form.payload.now ≤ 65495 → map place_of tries ≡ places (content form) → map result_of tries ≡ results
    → AreShown fixed (content form) false (plans (content form)) results → ShowsRead fixed plans read (Ok (record { form = form; tries = tries }))
form_by fixed plans read form tries results e few placed same are =
    form_shown fixed plans read (record { form = form; tries = tries }) (content form) e few
    (record { form = refl; placed = placed; results = subst (AreShown fixed (content form) false (plans (content form))) (sym same) are })

pub full_shown : (fixed : Static) (l : Limits) (passed : ℕ) (reference : Reference) (previous : Option Reference) (read : Result Content FormRefusal) (form : Form)
    (m : Meant) (second third : Result Meant NotMade) (tries : List code.Try) → read ≡ Ok (content form) → length form.payload.now ≤ 65495
    → map place_of tries ≡ places (content form) → map result_of tries ≡ Ok m ∷ second ∷ third ∷ [] → Makes fixed (content form) (unshifted reference) m
    → (settled also : Bool) → settled ≡ is_fit m → also ≡ fits_by second
    → IsShown fixed (content form) settled (plan (second_tries l passed reference (content form)) (no_second l passed (content form))) second
    → IsShown fixed (content form) (settled || also) (plan (third_tries previous (content form)) (no_third (content form))) third
    → ShowsRead fixed (full_plans l passed reference previous) read (Ok (record { form = form; tries = tries }))
full_shown fixed l passed reference previous read form m second third tries e few placed same makes settled also fits fits_too shown shown_too =
    let c = content form in
    let p = plan (second_tries l passed reference c) (no_second l passed c) in
    let q = plan (third_tries previous c) (no_third c) in
    form_by fixed (full_plans l passed reference previous) read form tries (Ok m ∷ second ∷ third ∷ []) e few placed same
    (three_shown fixed c (Ok (unshifted reference)) p q (Ok m) second third (m, refl, makes) (subst (λ b. IsShown fixed c b p second) fits shown)
    (subst (λ b. IsShown fixed c (is_fit m || b) q third) fits_too (subst (λ b. IsShown fixed c (b || also) q third) fits shown_too)))

-- what isn't made settles nothing
none_fits : (fixed : Static) (c : Content) (settled : Bool) (reason : NotMade) (x : Result Meant NotMade) → IsShown fixed c settled (Err reason) x → fits_by x ≡ false
none_fits fixed c true reason x e = ap fits_by e
none_fits fixed c false reason x e = ap fits_by e

or_none : (b : Bool) → (b || false) ≡ b
or_none true = refl
or_none false = refl

pub static_shown : (fixed : Static) (reference : Reference) (read : Result Content FormRefusal) (form : Form)
    (m : Meant) (other : Result Meant NotMade) (tries : List code.Try) → read ≡ Ok (content form) → length form.payload.now ≤ 65495
    → map place_of tries ≡ places (content form) → map result_of tries ≡ Ok m ∷ other ∷ other ∷ [] → Makes fixed (content form) (unshifted reference) m
    → (settled : Bool) → settled ≡ is_fit m → IsShown fixed (content form) settled (Err OneTry) other
    → ShowsRead fixed (λ c. static_plans reference) read (Ok (record { form = form; tries = tries }))
static_shown fixed reference read form m other tries e few placed same makes settled fits shown =
    let c = content form in
    let first = subst (λ b. IsShown fixed c b (Err OneTry) other) fits shown in
    let stays : (is_fit m || fits_by other) ≡ is_fit m = ap (λ b. is_fit m || b) (none_fits fixed c (is_fit m) OneTry other first) ∙ or_none (is_fit m) in
    form_by fixed (λ d. static_plans reference) read form tries (Ok m ∷ other ∷ other ∷ []) e few placed same
    (three_shown fixed c (Ok (unshifted reference)) (Err OneTry) (Err OneTry) (Ok m) other other (m, refl, makes) first
    (subst (λ b. IsShown fixed c b (Err OneTry) other) (sym stays) first))

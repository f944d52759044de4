-- The tries of a packet come to exactly one verdict.
use Rattle.std.proofs.Common.{◌≡◌, ◌≢◌, ℕ, ◌≤◌, ◌⊎◌, inl, inr, ⊎_elim, Bool, true, false, List, [], ◌∷◌, length, refl, sym, ap, ◌∙◌, arith}
use Rattle.std.specs.Prelude.{Result, Ok, Err, IfOk, nat_lt}
use Rattle.std.proofs.lemmas.Bool.{cases_lt}
use Rattle.std.proofs.lemmas.Bool.Decides.{nat_tests}
use Rattle.rohc_header.specs.declared.fields.Static.{Static}
use Rattle.rohc_chain.specs.Good.{IsGoodStatic}
use Rattle.rohc_forms.specs.declared.refusal.FormRefusal.{FormRefusal}
use Rattle.rohc_forms.specs.Good.{IsGoodContent}
use Rattle.rohc_forms.specs.Content.{Content}
use Rattle.rohc_context.specs.declared.fault.Fault.{Fault}
use Rattle.rohc_context.specs.declared.fault.Fault.TheVariants.{Unfit, Refused}
use Rattle.rohc_context.specs.declared.refusal.Refusal.TheVariants.{TooLong}
use Rattle.rohc_context.specs.Faults.{fault_of_form}
use Rattle.rohc_context.specs.Explains.{Explained, Explains}
use Rattle.rohc_context.specs.Tries.{Try, Fits, Misses, Acceptance, Verdict, check_for}
use Rattle.rohc_context.specs.Update.{VerdictUnless, Judges}
use Rattle.rohc_context.proofs.ExplainLemmas.{explains_some, explains_one}

-- what fits doesn't miss
pub fit_or_miss : (first : ℕ) (udp_sum stride_known : Bool) (fixed : Static) (t : Try) (c : Content) (h : Explained)
    → IsGoodContent first udp_sum stride_known c → Fits fixed t c h → Misses fixed t c → ⊥
fit_or_miss first udp_sum stride_known fixed t c h good fits misses =
    let same = explains_one first udp_sum stride_known fixed t.reference t.shift c misses.header h good misses.explained fits.explained in
    misses.unchecked (ap (λ (x : Explained). check_for c.kind x.octets) same ∙ fits.checked)

pub verdict_one : (first : ℕ) (udp_sum stride_known : Bool) (fixed : Static) (c : Content) (tries : List Try) (a b : Result Acceptance Fault)
    → IsGoodContent first udp_sum stride_known c → Verdict fixed c tries a → Verdict fixed c tries b → a ≡ b
verdict_one first udp_sum stride_known fixed c [] a b good p q = p ∙ sym q
verdict_one first udp_sum stride_known fixed c (t ∷ more) a b good (inl (h, fits, e)) (inl (k, also, f)) =
    let same = explains_one first udp_sum stride_known fixed t.reference t.shift c h k good fits.explained also.explained in
    e ∙ ap (λ (x : Explained). Ok (record { content = c; reference = t.reference; header = x })) same ∙ sym f
verdict_one first udp_sum stride_known fixed c (t ∷ more) a b good (inl (h, fits, e)) (inr (misses, rest)) =
    absurd (fit_or_miss first udp_sum stride_known fixed t c h good fits misses)
verdict_one first udp_sum stride_known fixed c (t ∷ more) a b good (inr (misses, rest)) (inl (h, fits, e)) =
    absurd (fit_or_miss first udp_sum stride_known fixed t c h good fits misses)
verdict_one first udp_sum stride_known fixed c (t ∷ more) a b good (inr (misses, rest)) (inr (also, other)) =
    verdict_one first udp_sum stride_known fixed c more a b good rest other

-- a check is the packet's, or isn't
same_or_not : (a b : ℕ) → (a ≡ b) ⊎ (a ≢ b)
same_or_not a b = ⊎_elim (λ less. inr (λ e. omega arith)) (λ more. ⊎_elim (λ less. inr (λ e. omega arith)) (λ also. inl (omega arith)) (cases_lt b a)) (cases_lt a b)

tried : (fixed : Static) (t : Try) (c : Content) (h : Explained) → Explains fixed t.reference t.shift c h → Fits fixed t c h ⊎ Misses fixed t c
tried fixed t c h explained = ⊎_elim
    (λ e. inl (record { explained = explained; checked = e }))
    (λ ne. inr (record { header = h; explained = explained; unchecked = ne }))
    (same_or_not (check_for c.kind h.octets) c.check)

pub verdict_some : (first : ℕ) (udp_sum stride_known : Bool) (fixed : Static) (c : Content) (tries : List Try) → IsGoodStatic fixed
    → IsGoodContent first udp_sum stride_known c → length c.payload ≤ 65495 → (verdict : Result Acceptance Fault) × Verdict fixed c tries verdict
verdict_some first udp_sum stride_known fixed c [] fixed_good good few = (Err Unfit, refl)
verdict_some first udp_sum stride_known fixed c (t ∷ more) fixed_good good few =
    let (h, explained) = explains_some first udp_sum stride_known fixed t.reference t.shift c fixed_good good few in
    let (rest, later) = verdict_some first udp_sum stride_known fixed c more fixed_good good few in
    ⊎_elim
    (λ fits. (Ok (record { content = c; reference = t.reference; header = h }), inl (h, fits, refl)))
    (λ misses. (rest, inr (misses, later)))
    (tried fixed t c h explained)

-- ---- Where the packet is read

unless_some : (long : Bool) (n : ℕ) → nat_lt 65495 n ≡ long → long ≡ false → n ≤ 65495
unless_some long n e f = grind (arith, nat_tests)

pub judges_one : (first : ℕ) (udp_sum stride_known : Bool) (fixed : Static) (tries : Content → List Try) (read : Result Content FormRefusal) (a b : Result Acceptance Fault)
    → IfOk read (IsGoodContent first udp_sum stride_known) → Judges fixed tries read a → Judges fixed tries read b → a ≡ b
judges_one first udp_sum stride_known fixed tries (Err refusal) a b good p q = p ∙ sym q
judges_one first udp_sum stride_known fixed tries (Ok c) a b good p q = unless_one (nat_lt 65495 (length c.payload)) p q where
  unless_one : (long : Bool) → VerdictUnless long fixed c (tries c) a → VerdictUnless long fixed c (tries c) b → a ≡ b
  unless_one true x y = x ∙ sym y
  unless_one false x y = verdict_one first udp_sum stride_known fixed c (tries c) a b good x y

pub judges_some : (first : ℕ) (udp_sum stride_known : Bool) (fixed : Static) (tries : Content → List Try) (read : Result Content FormRefusal)
    → IsGoodStatic fixed → IfOk read (IsGoodContent first udp_sum stride_known) → (verdict : Result Acceptance Fault) × Judges fixed tries read verdict
judges_some first udp_sum stride_known fixed tries (Err refusal) fixed_good good = (Err (fault_of_form refusal), refl)
judges_some first udp_sum stride_known fixed tries (Ok c) fixed_good good = unless (nat_lt 65495 (length c.payload)) refl where
  unless : (long : Bool) → nat_lt 65495 (length c.payload) ≡ long → (verdict : Result Acceptance Fault) × VerdictUnless long fixed c (tries c) verdict
  unless true e = (Err (Refused TooLong), refl)
  unless false e = verdict_some first udp_sum stride_known fixed c (tries c) fixed_good good (unless_some false (length c.payload) e refl)

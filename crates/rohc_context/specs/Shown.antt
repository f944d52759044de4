-- What a context shows of a packet's tries.
-- Words: Plan, full_plans, static_plans; places; Makes, IsShown, AreShown; ShowsRead, Shows.
use Rattle.std.specs.Prelude.{◌≡◌, ℕ, ◌-◌, ◌*◌, ◌^◌, List, [], ◌∷◌, map, length, Bool, true, false, ◌==◌, ◌||◌, nat_lt, if◌then◌else◌, Option, Some, None, Result, Ok, Err}
use Rattle.rohc_frame.specs.declared.header.HeadKind.{HeadKind}
use Rattle.rohc_frame.specs.declared.header.HeadKind.TheVariants.{Ir, IrDyn, Other}
use Rattle.rohc_frame.specs.Header.{Header}
use Rattle.rohc_header.specs.declared.fields.Static.{Static}
use Rattle.rohc_header.specs.Original.{longest_payload}
use Rattle.rohc_forms.specs.declared.refusal.FormRefusal.{FormRefusal}
use Rattle.rohc_forms.specs.Content.{Content}
use Rattle.rohc_forms.specs.Packets.{content}
use Rattle.rohc_context.specs.declared.refusal.Refusal.TheVariants as refusals
use Rattle.rohc_context.specs.declared.settings.Settings.{Settings}
use Rattle.rohc_context.specs.declared.shown.Against.{Against}
use Rattle.rohc_context.specs.declared.shown.Against.TheVariants as references
use Rattle.rohc_context.specs.declared.shown.NotMade.{NotMade}
use Rattle.rohc_context.specs.declared.shown.NotMade.TheVariants.{Settled, OneTry, LongCheck, TooSoon, NoPrevious}
use Rattle.rohc_context.specs.declared.shown.Meant.{Meant}
use Rattle.rohc_context.specs.declared.shown.Try as code
use Rattle.rohc_context.specs.declared.shown.Tries.{Tries}
use Rattle.rohc_context.specs.declared.shown.Untried.{Untried}
use Rattle.rohc_context.specs.declared.shown.Untried.TheVariants as untried
use Rattle.rohc_context.specs.Settings.{Limits, limits}
use Rattle.rohc_context.specs.Record.{Reference, State, Plain, NoContext, StaticContext, FullContext, Record}
use Rattle.rohc_context.specs.Explains.{Explained, Explains}
use Rattle.rohc_context.specs.Tries.{Try, has_short_check, check_for, unshifted, second_tries, third_tries}
use Rattle.rohc_context.specs.Faults.{fault_of_form}
use Rattle.rohc_context.specs.Outcomes.{refusal_of}
use Rattle.rohc_context.specs.Update.{said_under}
use Rattle.rohc_context.specs.Step.{Rule, Update, TooLow, rule, counts}

-- what stands in one of the three places: a try, or the reason why there is none
abbrev pub Plan : Type 0
Plan = Result Try NotMade

-- the try in this list, which has at most one; or else this reason
abbrev pub plan : List Try → NotMade → Plan
plan [] reason = Err reason
plan (t ∷ more) reason = Ok t

-- why there is no second try
abbrev pub no_second : Limits → (passed : ℕ) → Content → NotMade
no_second l passed c =
    if has_short_check c.kind then TooSoon (l.packet_ms * 2 ^ c.sn.count) passed else LongCheck

-- why there is no third try
abbrev pub no_third : Content → NotMade
no_third c = if has_short_check c.kind then NoPrevious else LongCheck

-- the three plans in Full Context
abbrev pub full_plans : Limits → (passed : ℕ) → Reference → (previous : Option Reference) → Content →
    List Plan
full_plans l passed reference previous c = Ok (unshifted reference)
    ∷ plan (second_tries l passed reference c) (no_second l passed c)
    ∷ plan (third_tries previous c) (no_third c) ∷ []

-- the three plans in Static Context
abbrev pub static_plans : Reference → List Plan
static_plans reference = Ok (unshifted reference) ∷ Err OneTry ∷ Err OneTry ∷ []

-- The three places: against the reference, against the reference moved on by 2^k, where the packet has k SN
-- bits, and against the previous reference.
abbrev pub places : Content → List (Against × ℕ)
places c = (references.Reference, 0) ∷ (references.Reference, 2 ^ c.sn.count) ∷ (references.Previous, 0) ∷ []

-- the place of a try that is shown, and its result
abbrev pub place_of : code.Try → Against × ℕ
place_of t = (t.against, t.shift)

abbrev pub result_of : code.Try → Result Meant NotMade
result_of t = t.result

-- the header that is shown
abbrev pub header_in : Meant → Explained
header_in m = record { moving = m.moving; octets = m.header.octets }

-- A try is made: the packet means this header by it. Beside it are the header's check and the packet's.
pub record Makes (fixed : Static) (c : Content) (t : Try) (m : Meant) : Type 0 where
  pub explained : Explains fixed t.reference t.shift c (header_in m)
  pub has : m.has ≡ check_for c.kind m.header.octets
  pub needs : m.needs ≡ c.check

-- the header's check is the packet's
abbrev pub is_fit : Meant → Bool
is_fit m = m.has == m.needs

-- the try is made and fits
abbrev pub fits_by : Result Meant NotMade → Bool
fits_by (Ok m) = is_fit m
fits_by (Err reason) = false

-- What is shown for one plan. Once an earlier try fits, none is made.
abbrev pub IsShown : Static → Content → (settled : Bool) → Plan → Result Meant NotMade → Type 0
IsShown fixed c true p result = result ≡ Err Settled
IsShown fixed c false (Err reason) result = result ≡ Err reason
IsShown fixed c false (Ok t) result = (m : Meant) × (result ≡ Ok m) × Makes fixed c t m

-- what is shown for plans in their order
abbrev pub AreShown : Static → Content → (settled : Bool) → List Plan → List (Result Meant NotMade) → Type 0
AreShown fixed c settled [] [] = Unit {0}
AreShown fixed c settled [] (result ∷ others) = ⊥
AreShown fixed c settled (p ∷ more) [] = ⊥
AreShown fixed c settled (p ∷ more) (result ∷ others) =
    IsShown fixed c settled p result × AreShown fixed c (settled || fits_by result) more others

-- what is shown of a packet that was read
pub record ShowsForm (fixed : Static) (c : Content) (plans : List Plan) (shown : Tries) : Type 0 where
  pub form : content shown.form ≡ c
  pub placed : map place_of shown.tries ≡ places c
  pub results : AreShown fixed c false plans (map result_of shown.tries)

-- If the rebuilt packet would be longer than 65,535 octets, it is refused; else its tries are shown.
abbrev pub ShowsUnless : (long : Bool) → Static → Content → List Plan → Result Tries Untried → Type 0
ShowsUnless true fixed c plans result = result ≡ Err (untried.Refused refusals.TooLong)
ShowsUnless false fixed c plans result =
    (shown : Tries) × (result ≡ Ok shown) × ShowsForm fixed c plans shown

-- what is shown of a packet, by what is read of it
abbrev pub ShowsRead : Static → (Content → List Plan) → Result Content FormRefusal → Result Tries Untried →
    Type 0
ShowsRead fixed plans (Err refusal) result =
    result ≡ Err (untried.Refused (refusal_of (fault_of_form refusal)))
ShowsRead fixed plans (Ok c) result =
    ShowsUnless (nat_lt longest_payload (length c.payload)) fixed c (plans c) result

-- What a state that takes the packet shows of it. Profile 0x0000 delivers the packet as it is.
abbrev pub ShowsBy : Limits → (passed : ℕ) → Header → State → Result Tries Untried → Type 0
ShowsBy l passed h Plain result = result ≡ Err untried.Plain
ShowsBy l passed h (NoContext nacked) result = ⊥
ShowsBy l passed h (StaticContext fixed None first second) result = ⊥
ShowsBy l passed h (StaticContext fixed (Some reference) first second) result =
    ShowsRead fixed (λ c. static_plans reference) (said_under h reference) result
ShowsBy l passed h (FullContext fixed reference previous window) result =
    ShowsRead fixed (full_plans l passed reference previous) (said_under h reference) result

-- what is shown of a packet of kind Other, by the rule that its state has for it
abbrev pub ShowsByRule : Rule → Limits → (passed : ℕ) → Header → State → Result Tries Untried → Type 0
ShowsByRule TooLow l passed h state result = result ≡ Err (untried.Refused refusals.StateTooLow)
ShowsByRule Update l passed h state result = ShowsBy l passed h state result
ShowsByRule other l passed h state result = ⊥

-- by whether the record counts
abbrev pub ShowsCounted : (counts : Bool) → Settings → (moment : ℕ) → Header → Record →
    Result Tries Untried → Type 0
ShowsCounted false s moment h r result = result ≡ Err (untried.Refused refusals.NoContext)
ShowsCounted true s moment h r result =
    ShowsByRule (rule r.state Other h.first) (limits s) (moment - r.accepted) h r.state result

-- and by its kind: an IR and an IR-DYN have no tries
abbrev pub ShowsKind : HeadKind → Settings → (moment : ℕ) → Header → Record → Result Tries Untried → Type 0
ShowsKind (Ir dynamic) s moment h r result = result ≡ Err untried.Whole
ShowsKind IrDyn s moment h r result = result ≡ Err untried.Whole
ShowsKind Other s moment h r result = ShowsCounted (counts s moment r) s moment h r result

-- What a record shows of a packet at this time, without taking it.
unfoldable pub Shows : Record → Settings → (moment : ℕ) → Header → Result Tries Untried → Type 0
Shows r s moment h result = ShowsKind h.kind s moment h r result

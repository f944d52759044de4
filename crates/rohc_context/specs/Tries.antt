-- Which headers a packet may mean, in the order in which they are tried, and the one that is accepted.
-- Words: Try, full_tries, static_tries, Fits, Misses, Acceptance, Verdict.
use Rattle.std.specs.Prelude.{◌≡◌, ◌≢◌, ℕ, ◌*◌, ◌^◌, List, [], ◌∷◌, ◌++◌, ◌⊎◌, Bool, not, ◌&&◌, nat_le, if◌then◌else◌, Option, Some, None, Result, Ok, Err}
use Rattle.rohc_checks.specs.Division.{poly3, poly7}
use Rattle.rohc_header.specs.declared.fields.Static.{Static}
use Rattle.rohc_header.specs.Check.{header_check}
use Rattle.rohc_forms.specs.declared.form.FormKind.{FormKind}
use Rattle.rohc_forms.specs.Kinds.{is_uor2}
use Rattle.rohc_forms.specs.Content.{Content}
use Rattle.rohc_context.specs.declared.fault.Fault.{Fault}
use Rattle.rohc_context.specs.declared.fault.Fault.TheVariants.{Unfit}
use Rattle.rohc_context.specs.Settings.{Limits}
use Rattle.rohc_context.specs.Record.{Reference}
use Rattle.rohc_context.specs.Explains.{Explained, Explains}

-- UO-0 and the UO-1 formats carry a 3-bit check, the UOR-2 formats a 7-bit one (RFC 3095 5.7.1 to 5.7.4).
abbrev pub has_short_check : FormKind → Bool
has_short_check kind = not (is_uor2 kind)

-- the check of a header that a packet of this format carries
abbrev pub check_for : FormKind → List ℕ → ℕ
check_for kind octets = if has_short_check kind then header_check poly3 octets else header_check poly7 octets

-- the reference to decode a packet against, and how far its SN is moved on
pub record Try : Type 0 where
  pub reference : Reference
  pub shift : ℕ

abbrev pub unshifted : Reference → Try
unshifted reference = record { reference = reference; shift = 0 }

-- The second try assumes that the SN bits wrapped around once. It is for short checks alone, and only if
-- enough time has passed: with k SN bits in the packet, `packet_ms * 2^k` milliseconds or more since the last
-- accepted arrival.
abbrev pub second_tries : Limits → (passed : ℕ) → Reference → Content → List Try
second_tries l passed reference c =
    if has_short_check c.kind && nat_le (l.packet_ms * 2 ^ c.sn.count) passed
    then record { reference = reference; shift = 2 ^ c.sn.count } ∷ []
    else []

-- the third try assumes that the last packet was accepted wrongly; it is for short checks alone
abbrev pub third_tries : Option Reference → Content → List Try
third_tries None c = []
third_tries (Some previous) c = if has_short_check c.kind then unshifted previous ∷ [] else []

-- the tries in Full Context
abbrev pub full_tries : Limits → (passed : ℕ) → Reference → (previous : Option Reference) → Content →
    List Try
full_tries l passed reference previous c =
    unshifted reference ∷ second_tries l passed reference c ++ third_tries previous c

-- the try in Static Context
abbrev pub static_tries : Reference → List Try
static_tries reference = unshifted reference ∷ []

-- the packet means this header by the try, and the header's check is the packet's
pub record Fits (fixed : Static) (t : Try) (c : Content) (h : Explained) : Type 0 where
  pub explained : Explains fixed t.reference t.shift c h
  pub checked : check_for c.kind h.octets ≡ c.check

-- it isn't
pub record Misses (fixed : Static) (t : Try) (c : Content) : Type 0 where
  pub header : Explained
  pub explained : Explains fixed t.reference t.shift c header
  pub unchecked : check_for c.kind header.octets ≢ c.check

-- What is accepted: the packet's content, the reference against which it was decoded, and its header.
pub record Acceptance : Type 0 where
  pub content : Content
  pub reference : Reference
  pub header : Explained

-- the header of the first try that fits; if none fits, the packet is unfit
abbrev pub Verdict : Static → Content → List Try → Result Acceptance Fault → Type 0
Verdict fixed c [] verdict = verdict ≡ Err Unfit
Verdict fixed c (t ∷ more) verdict =
    ((h : Explained) × Fits fixed t c h
    × (verdict ≡ Ok (record { content = c; reference = t.reference; header = h })))
    ⊎ (Misses fixed t c × Verdict fixed c more verdict)

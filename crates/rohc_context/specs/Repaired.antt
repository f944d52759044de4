-- Whether a packet is repaired: delivered, although it misses by the first try (RFC 3095 5.3.2.2.4,
-- 5.3.2.2.5). Words: IsRepaired, RepairsIn, RepairsGiven, RepairsBy; Repairs.
use Rattle.std.specs.Prelude.{◌≡◌, ℕ, Bool, true, false, Option, Some, None, is_some, Ok}
use Rattle.rohc_frame.specs.declared.header.HeadKind.{HeadKind}
use Rattle.rohc_frame.specs.declared.header.HeadKind.TheVariants.{Other}
use Rattle.rohc_frame.specs.Header.{Header}
use Rattle.rohc_header.specs.declared.fields.Static.{Static}
use Rattle.rohc_forms.specs.Content.{Content}
use Rattle.rohc_context.specs.declared.settings.Settings.{Settings}
use Rattle.rohc_context.specs.Record.{Reference, State, Plain, NoContext, StaticContext, FullContext, Record}
use Rattle.rohc_context.specs.Response.{Response}
use Rattle.rohc_context.specs.Explains.{Explained}
use Rattle.rohc_context.specs.Tries.{Fits, Misses, unshifted}
use Rattle.rohc_context.specs.Update.{said_under}
use Rattle.rohc_context.specs.Step.{counting}

-- A packet misses by the first try, or fits by it.
abbrev pub IsRepaired : Static → Reference → Content → (repaired : Bool) → Type 0
IsRepaired fixed reference c true = Misses fixed (unshifted reference) c
IsRepaired fixed reference c false = (h : Explained) × Fits fixed (unshifted reference) c h

-- a packet that is delivered, by the state: only Full Context has more than one try
abbrev pub RepairsIn : State → Header → (repaired : Bool) → Type 0
RepairsIn (FullContext fixed reference previous window) h repaired =
    (c : Content) × (said_under h reference ≡ Ok c) × IsRepaired fixed reference c repaired
RepairsIn Plain h repaired = repaired ≡ false
RepairsIn (NoContext nacked) h repaired = repaired ≡ false
RepairsIn (StaticContext fixed reference first second) h repaired = repaired ≡ false

-- no other packet is repaired
abbrev pub RepairsGiven : (delivered : Bool) → State → Header → (repaired : Bool) → Type 0
RepairsGiven true state h repaired = RepairsIn state h repaired
RepairsGiven false state h repaired = repaired ≡ false

-- by the record that counts, and the packet's kind
abbrev pub RepairsBy : (counting : Option Record) → HeadKind → Header → Response → (repaired : Bool) → Type 0
RepairsBy None kind h response repaired = repaired ≡ false
RepairsBy (Some r) Other h response repaired = RepairsGiven (is_some response.packet) r.state h repaired
RepairsBy (Some r) kind h response repaired = repaired ≡ false

-- The record before, if there is one, the settings, the arrival time, the header and the answer, and whether
-- the packet is repaired. The crates above don't look inside.
unfoldable pub Repairs : Option Record → Settings → ℕ → Header → Response → (repaired : Bool) → Type 0
Repairs before s moment h response repaired = RepairsBy (counting s moment before) h.kind h response repaired

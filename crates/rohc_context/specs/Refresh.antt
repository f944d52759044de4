-- What an IR-DYN leads to (RFC 3095 5.7.7.2).
-- Words: Refreshes.
use Rattle.std.specs.Prelude.{◌≡◌, ℕ, List, [], Bool, false, Option, Some, None, Result, Ok, Err}
use Rattle.rohc_frame.specs.Header.{Header}
use Rattle.rohc_header.specs.declared.fields.Static.{Static}
use Rattle.rohc_chain.specs.declared.refusal.ChainRefusal.{ChainRefusal}
use Rattle.rohc_chain.specs.Chains.{judged_octet}
use Rattle.rohc_chain.specs.Faults.{dyn_profile_fault}
use Rattle.rohc_chain.specs.Packets.{DynContent, kept_values, ir_dyn_at}
use Rattle.rohc_context.specs.Record.{Reference, State, Plain, NoContext, StaticContext, FullContext, Record}
use Rattle.rohc_context.specs.Window.{and_outcome}
use Rattle.rohc_context.specs.Faults.{fault_of_chain}
use Rattle.rohc_context.specs.Outcomes.{Arrival, Ending, ends}
use Rattle.rohc_context.specs.Renewal.{Delivers}

-- the X and the stride of the held reference, which stay if an IR-DYN doesn't give them
abbrev pub kept_by : Option Reference → Bool × Option ℕ
kept_by None = (false, None)
kept_by (Some r) = (r.moving.extension, r.moving.stride)

-- what an IR-DYN says to a context of profile 0x0001 with this reference or none
abbrev pub dyn_said : Header → Option Reference → Result DynContent ChainRefusal
dyn_said h reference = ir_dyn_at h 1 (kept_values (kept_by reference).0 (kept_by reference).1)

-- profile 0x0000 refuses each IR-DYN by its Profile octet
abbrev pub PlainRefuses : Header → ChainRefusal → Type 0
PlainRefuses h refusal = judged_octet (dyn_profile_fault 0) h.rest ≡ Err refusal

-- what was said is refused, or leads to Full Context with this static part and this window
abbrev pub RefreshesTo : Arrival → Record → Static → (window : List Bool) → Result DynContent ChainRefusal →
    Ending → Type 0
RefreshesTo a r fixed window (Err refusal) ending = ending ≡ ends a (Some r) (Some r) (fault_of_chain refusal)
RefreshesTo a r fixed window (Ok d) ending = Delivers a fixed d.moving d.payload window ending

-- From Static Context the window of Full Context starts empty; that of Full Context gets a success. No
-- Context never follows the rule Refresh.
abbrev pub Refreshes : Arrival → Record → State → Ending → Type 0
Refreshes a r Plain ending =
    (refusal : ChainRefusal) × PlainRefuses a.header refusal
    × (ending ≡ ends a (Some r) (Some r) (fault_of_chain refusal))
Refreshes a r (NoContext nacked) ending = ⊥
Refreshes a r (StaticContext fixed reference first second) ending =
    RefreshesTo a r fixed [] (dyn_said a.header reference) ending
Refreshes a r (FullContext fixed reference previous window) ending =
    RefreshesTo a r fixed (and_outcome false window) (dyn_said a.header (Some reference)) ending

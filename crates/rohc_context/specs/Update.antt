-- What a packet of kind Other leads to (RFC 3095 5.7.1 to 5.7.5, 5.10.2).
-- Words: Updates; MissesFirst, MissesIn.
use Rattle.std.specs.Prelude.{◌≡◌, ◌≤◌, ◌-◌, List, [], ◌∷◌, length, Bool, true, false, nat_lt, is_some, Some, None, Result, Ok, Err}
use Rattle.rohc_frame.specs.Header.{Header}
use Rattle.rohc_header.specs.declared.fields.Static.{Static}
use Rattle.rohc_header.specs.Original.{longest_payload}
use Rattle.rohc_forms.specs.declared.refusal.FormRefusal.{FormRefusal}
use Rattle.rohc_forms.specs.Content.{Content}
use Rattle.rohc_forms.specs.Packets.{form_at}
use Rattle.rohc_context.specs.declared.due.Due.{Due}
use Rattle.rohc_context.specs.declared.due.Due.TheVariants.{Nothing, Ack}
use Rattle.rohc_context.specs.declared.fault.Fault.{Fault}
use Rattle.rohc_context.specs.declared.fault.Fault.TheVariants.{Refused}
use Rattle.rohc_context.specs.declared.refusal.Refusal.TheVariants.{TooLong}
use Rattle.rohc_context.specs.Record.{Reference, State, Plain, NoContext, StaticContext, FullContext, Record}
use Rattle.rohc_context.specs.Window.{and_outcome}
use Rattle.rohc_context.specs.Response.{delivered}
use Rattle.rohc_context.specs.Faults.{fault_of_form}
use Rattle.rohc_context.specs.Tries.{Try, Acceptance, Misses, Verdict, unshifted, static_tries, full_tries}
use Rattle.rohc_context.specs.NextReference.{next_reference, next_previous}
use Rattle.rohc_context.specs.Outcomes.{Arrival, Ending, taken, ends}

-- the content of a packet under a reference's RND, UDP checksum and stride
abbrev pub said_under : Header → Reference → Result Content FormRefusal
said_under h reference =
    form_at h reference.moving.rnd reference.carries_sum (is_some reference.moving.stride)

-- If the rebuilt packet would be longer than 65,535 octets, the verdict is TooLong; else the tries decide.
abbrev pub VerdictUnless : (long : Bool) → Static → Content → List Try → Result Acceptance Fault → Type 0
VerdictUnless true fixed c tries verdict = verdict ≡ Err (Refused TooLong)
VerdictUnless false fixed c tries verdict = Verdict fixed c tries verdict

-- the verdict on a packet that was read, or its refusal
abbrev pub Judges : Static → (Content → List Try) → Result Content FormRefusal → Result Acceptance Fault →
    Type 0
Judges fixed tries (Err refusal) verdict = verdict ≡ Err (fault_of_form refusal)
Judges fixed tries (Ok c) verdict =
    VerdictUnless (nat_lt longest_payload (length c.payload)) fixed c (tries c) verdict

-- The accepted header is delivered, and leads to this state. A fault ends the arrival.
abbrev pub settled : Arrival → Record → (Acceptance → State) → (Acceptance → Due) →
    Result Acceptance Fault → Ending
settled a r state due (Ok v) = taken a (state v) (delivered v.header.octets v.content.payload None) (due v)
settled a r state due (Err fault) = ends a (Some r) (Some r) fault

-- the states after it, from Static Context and from Full Context
abbrev pub promoted : Static → Acceptance → State
promoted fixed a = FullContext fixed (next_reference a) None []

abbrev pub updated : Static → Reference → (window : List Bool) → Acceptance → State
updated fixed reference window a =
    FullContext fixed (next_reference a) (next_previous reference a) (and_outcome false window)

-- From Static Context an accepted packet is acknowledged.
abbrev pub acknowledged : Acceptance → Due
acknowledged a = Ack (next_reference a).moving.sn

abbrev pub silent : Acceptance → Due
silent a = Nothing

-- In profile 0x0000 a Normal packet is delivered without its CID octets. In profile 0x0001 the packet is
-- read, the tries decide which header it means, and the state is updated. No other state follows the rule
-- Update.
abbrev pub Updates : Arrival → Record → State → Ending → Type 0
Updates a r Plain ending =
    ending ≡ taken a Plain (delivered (a.header.first ∷ []) a.header.rest None) Nothing
Updates a r (StaticContext fixed (Some reference) first second) ending =
    (verdict : Result Acceptance Fault)
    × Judges fixed (λ c. static_tries reference) (said_under a.header reference) verdict
    × (ending ≡ settled a r (promoted fixed) acknowledged verdict)
Updates a r (FullContext fixed reference previous window) ending =
    (verdict : Result Acceptance Fault)
    × Judges fixed (full_tries a.limits (a.moment - r.accepted) reference previous)
    (said_under a.header reference) verdict
    × (ending ≡ settled a r (updated fixed reference window) silent verdict)
Updates a r state ending = ⊥

-- A packet that can be read, isn't too long and has no extension 3 misses by the first try.
abbrev pub MissesFirst : Static → Reference → Result Content FormRefusal → Type 0
MissesFirst fixed reference said = (c : Content) → said ≡ Ok c → length c.payload ≤ longest_payload →
    c.values ≡ None → Misses fixed (unshifted reference) c

-- a packet misses by the first try, in the one state that makes it first
abbrev pub MissesIn : State → Header → Type 0
MissesIn (FullContext fixed reference previous window) h =
    MissesFirst fixed reference (said_under h reference)
MissesIn Plain h = Unit {0}
MissesIn (NoContext nacked) h = Unit {0}
MissesIn (StaticContext fixed reference first second) h = Unit {0}

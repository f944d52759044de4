-- What is kept of a context.
-- Words: Reference, State, Record, previous_of, record_of.
use Rattle.std.specs.Prelude.{ℕ, List, Bool, true, false, Option, option_map}
use Rattle.rohc_header.specs.declared.fields.Static.{Static}
use Rattle.rohc_header.specs.declared.fields.Dynamic.{Dynamic}
use Rattle.rohc_context.specs.declared.record.Context.{Context}
use Rattle.rohc_context.specs.declared.state.State as code
use Rattle.rohc_context.specs.declared.state.State.TheVariants as states
use Rattle.rohc_context.specs.declared.state.FullContext as code_full
use Rattle.rohc_context.specs.declared.reference.Reference as saved
use Rattle.rohc_context.specs.declared.reference.Previous.{Previous}
use Rattle.rohc_context.specs.Previous.{fields_by}
use Rattle.rohc_context.specs.Window.{outcomes}

-- What packets of kind Other are decoded against: the fields of the last accepted header, without its marker,
-- with the RND, NBO and stride in force; and whether packets carry a UDP checksum.
pub record Reference : Type 0 where
  pub moving : Dynamic
  pub carries_sum : Bool

-- Profile 0x0000, or one of the three states of a decompressor of profile 0x0001 (RFC 3095 4.3.2). No Context
-- has the time of the last STATIC-NACK. Static Context has the static part, perhaps a reference, and two
-- windows. Full Context has the static part, the reference, perhaps a previous one, and a window.
pub data State : Type 0 where
  Plain : State
  NoContext : (nacked : ℕ) → State
  StaticContext : Static → Option Reference → (first second : List Bool) → State
  FullContext : Static → Reference → (previous : Option Reference) → (window : List Bool) → State

-- the state, and the time of the last accepted arrival
pub record Record : Type 0 where
  pub accepted : ℕ
  pub state : State

-- the code's values as contracts see them
abbrev pub reference_of : saved.Reference → Reference
reference_of r = record { moving = r.moving; carries_sum = r.carries_sum }

-- the previous reference, by what is kept of it beside the reference
abbrev pub previous_by : saved.Reference → Previous → Reference
previous_by r p = record { moving = fields_by r.moving p; carries_sum = r.carries_sum }

abbrev pub previous_of : code_full.FullContext → Option Reference
previous_of c = option_map (previous_by c.reference) c.previous

abbrev pub state_of : code.State → State
state_of states.Plain = Plain
state_of (states.NoContext c) = NoContext c.nacked
state_of (states.Static c) =
    StaticContext c.fixed (option_map reference_of c.reference) (outcomes c.windows.0) (outcomes c.windows.1)
state_of (states.Full c) =
    FullContext c.fixed (reference_of c.reference) (previous_of c) (outcomes c.windows.0)

abbrev pub is_static : code.State → Bool
is_static states.Plain = false
is_static (states.NoContext c) = false
is_static (states.Static c) = true
is_static (states.Full c) = false

unfoldable pub record_of : Context → Record
record_of c = record { accepted = c.accepted; state = state_of c.state }

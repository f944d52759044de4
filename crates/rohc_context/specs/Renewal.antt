-- What an IR leads to (RFC 3095 5.7.7.1, 5.10.1).
-- Words: Renews.
use Rattle.std.specs.Prelude.{◌≡◌, ℕ, List, [], ◌∷◌, length, Bool, false, Option, Some, None, Result, Ok, Err}
use Rattle.rohc_header.specs.declared.fields.Static.{Static}
use Rattle.rohc_header.specs.declared.fields.Dynamic.{Dynamic}
use Rattle.rohc_header.specs.Original.{IsOriginal}
use Rattle.rohc_chain.specs.declared.refusal.ChainRefusal.{ChainRefusal}
use Rattle.rohc_chain.specs.Packets.{IrContent}
use Rattle.rohc_chain.specs.Packets as chain
use Rattle.rohc_context.specs.declared.due.Due.TheVariants.{Nothing, Ack, PlainAck}
use Rattle.rohc_context.specs.Record.{State, Plain, StaticContext, FullContext, Record}
use Rattle.rohc_context.specs.Window.{and_outcome}
use Rattle.rohc_context.specs.Response.{Response, delivered, stored}
use Rattle.rohc_context.specs.NextReference.{first_reference}
use Rattle.rohc_context.specs.Faults.{fault_of_chain}
use Rattle.rohc_context.specs.Outcomes.{Arrival, Ending, taken, ends}

-- The window of Full Context gets a success; from every other state, and from none, it starts empty.
abbrev pub full_window : (counting : Option State) → List Bool
full_window (Some (FullContext fixed reference previous window)) = and_outcome false window
full_window counting = []

-- The windows of Static Context get a success each; from every other state, and from none, they start empty.
abbrev pub static_windows : (counting : Option State) → List Bool × List Bool
static_windows (Some (StaticContext fixed reference first second)) =
    (and_outcome false first, and_outcome false second)
static_windows counting = ([], [])

-- the IP packet of profile 0x0000 is delivered, if there is one
abbrev pub plain_answer : List ℕ → Response
plain_answer [] = stored None
plain_answer (octet ∷ packet) = delivered [] (octet ∷ packet) None

-- the rebuilt packet of these fields and this payload is delivered, and acknowledged
abbrev pub Delivers : Arrival → Static → Dynamic → (payload : List ℕ) → (window : List Bool) → Ending → Type 0
Delivers a fixed moving payload window ending =
    (octets : List ℕ) × IsOriginal fixed moving (length payload) octets
    × (ending ≡ taken a (FullContext fixed (first_reference moving) None window)
    (delivered octets payload None) (Ack moving.sn))

-- An IR is taken in every state. One of profile 0x0000 leads to that profile's state, one without a dynamic
-- chain to Static Context without a reference, and one with a dynamic chain to Full Context.
abbrev pub Renewed : Arrival → (counting : Option State) → IrContent → Ending → Type 0
Renewed a counting (chain.Plain packet) ending = ending ≡ taken a Plain (plain_answer packet) PlainAck
Renewed a counting (chain.StaticOnly fixed) ending =
    ending ≡ taken a (StaticContext fixed None (static_windows counting).0 (static_windows counting).1)
    (stored None) Nothing
Renewed a counting (chain.Whole fixed moving payload) ending =
    Delivers a fixed moving payload (full_window counting) ending

abbrev pub state_in : Option Record → Option State
state_in None = None
state_in (Some r) = Some r.state

abbrev pub Renews : Arrival → (counting before : Option Record) → Result IrContent ChainRefusal → Ending →
    Type 0
Renews a counting before (Ok content) ending = Renewed a (state_in counting) content ending
Renews a counting before (Err refusal) ending = ending ≡ ends a counting before (fault_of_chain refusal)

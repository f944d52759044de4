-- The octets that a layer below adds behind a packet, as Ethernet pads short frames: ROHC has no length
-- field.
-- Words: ip_total; normal_excess, plain_excess, ir_excess, dyn_excess, other_excess; excess, excess_in.
use Rattle.std.specs.Prelude.{ℕ, ◌+◌, ◌-◌, ◌*◌, List, [], ◌∷◌, length, Option, Some, None, option_map, Result, Ok, Err}
use Rattle.rohc_frame.specs.declared.header.HeadKind.{HeadKind}
use Rattle.rohc_frame.specs.declared.header.HeadKind.TheVariants.{Ir, IrDyn, Other}
use Rattle.rohc_frame.specs.Header.{Header}
use Rattle.rohc_chain.specs.declared.refusal.ChainRefusal.{ChainRefusal}
use Rattle.rohc_chain.specs.declared.refusal.ChainRefusal.TheVariants.{Trailing}
use Rattle.rohc_chain.specs.Packets.{IrContent, DynContent, ir_at}
use Rattle.rohc_chain.specs.Packets as chain
use Rattle.rohc_forms.specs.declared.refusal.FormRefusal.{FormRefusal}
use Rattle.rohc_forms.specs.Content.{Content}
use Rattle.rohc_context.specs.Record.{Reference, State, Plain, NoContext, StaticContext, FullContext, Record}
use Rattle.rohc_context.specs.Renewal.{state_in}
use Rattle.rohc_context.specs.Refresh.{dyn_said}
use Rattle.rohc_context.specs.Update.{said_under}

-- the total length in an IPv4 header, by the octets behind its first one (RFC 791 3.1)
abbrev pub ip_total : List ℕ → Option ℕ
ip_total (tos ∷ high ∷ low ∷ behind) = Some (high * 256 + low)
ip_total rest = None

-- so many octets beyond a total length; none if there is no total length
abbrev pub beyond : Option ℕ → (octets : ℕ) → ℕ
beyond None octets = 0
beyond (Some total) octets = octets - total

-- behind a Normal packet, whose first octet stays, by the others
abbrev pub normal_excess : List ℕ → ℕ
normal_excess rest = beyond (option_map (λ total. total - 1) (ip_total rest)) (length rest)

-- behind the IP packet of an IR of profile 0x0000
abbrev pub plain_excess : List ℕ → ℕ
plain_excess [] = 0
plain_excess (first ∷ rest) = beyond (ip_total rest) (1 + length rest)

-- Behind an IR whose payload has at most n octets. An IR without a dynamic chain has no payload: behind its
-- first octet and CID are the Profile octet, the check octet and the 18 octets of a static chain.
abbrev pub ir_excess : (n : ℕ) → Header → Result IrContent ChainRefusal → ℕ
ir_excess n h (Ok (chain.Plain packet)) = plain_excess packet
ir_excess n h (Ok (chain.StaticOnly fixed)) = 0
ir_excess n h (Ok (chain.Whole fixed moving payload)) = length payload - n
ir_excess n h (Err Trailing) = length h.rest - 20
ir_excess n h (Err refusal) = 0

-- behind an IR-DYN that was read, and behind a packet of kind Other
abbrev pub dyn_read : (n : ℕ) → Result DynContent ChainRefusal → ℕ
dyn_read n (Ok d) = length d.payload - n
dyn_read n (Err refusal) = 0

abbrev pub form_read : (n : ℕ) → Result Content FormRefusal → ℕ
form_read n (Ok c) = length c.payload - n
form_read n (Err refusal) = 0

-- behind them, as a state reads them
abbrev pub dyn_excess : (n : ℕ) → Header → Option State → ℕ
dyn_excess n h (Some (StaticContext fixed reference first second)) = dyn_read n (dyn_said h reference)
dyn_excess n h (Some (FullContext fixed reference previous window)) =
    dyn_read n (dyn_said h (Some reference))
dyn_excess n h state = 0

abbrev pub other_excess : (n : ℕ) → Header → Option State → ℕ
other_excess n h (Some Plain) = normal_excess h.rest
other_excess n h (Some (StaticContext fixed (Some reference) first second)) =
    form_read n (said_under h reference)
other_excess n h (Some (FullContext fixed reference previous window)) = form_read n (said_under h reference)
other_excess n h state = 0

abbrev pub excess : HeadKind → (n : ℕ) → Header → Option State → ℕ
excess (Ir dynamic) n h state = ir_excess n h (ir_at h)
excess IrDyn n h state = dyn_excess n h state
excess Other n h state = other_excess n h state

-- behind a packet with this header, whose payload has at most n octets, as the record of its CID reads it
unfoldable pub excess_in : (n : ℕ) → Header → Option Record → ℕ
excess_in n h before = excess h.kind n h (state_in before)

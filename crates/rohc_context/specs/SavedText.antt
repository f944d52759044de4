-- A context as it is saved (docs/FORMATS.md): octets from left to right, numbers most significant first.
-- Words: saved_text.
use Rattle.std.specs.Prelude.{ℕ, ◌/◌, ◌%◌, ◌^◌, List, ◌++◌, length, Bool, true, false, Option, Some, None, is_some, unwrap_or}
use Rattle.rohc_checks.specs.Division.{number}
use Rattle.rohc_header.specs.declared.fields.Static.{Static}
use Rattle.rohc_header.specs.declared.fields.Dynamic.{Dynamic}
use Rattle.rohc_header.specs.Original.{octet, word, quad, flag}
use Rattle.rohc_context.specs.Record.{Reference, State, Plain, NoContext, StaticContext, FullContext, Record}

-- a number of 64 bits
unfoldable pub long_text : ℕ → List ℕ
long_text n = quad (n / 2 ^ 32) ++ quad (n % 2 ^ 32)

-- a flag: 01 if it is set, else 00
abbrev pub flag_text : Bool → List ℕ
flag_text set = octet (flag set 1)

-- a window: how many outcomes, and a bit for each, the newest the least significant; 1 is a failure
unfoldable pub window_text : List Bool → List ℕ
window_text w = octet (length w) ++ long_text (number w)

unfoldable pub static_text : Static → List ℕ
static_text f =
    f.source ++ (f.destination ++ (word f.source_port ++ (word f.destination_port ++ quad f.ssrc)))

-- the numbers in which a reference and the previous one may differ
unfoldable pub numbers_text : Dynamic → List ℕ
numbers_text m =
    octet m.tos ++ (octet m.ttl ++ (word m.id ++ (word m.udp_sum ++ (word m.sn ++ quad m.ts))))

-- the payload type and the flags in which they may differ
unfoldable pub marks_text : Dynamic → List ℕ
marks_text m = octet m.payload_type ++ (flag_text m.df ++ (flag_text m.padding ++ flag_text m.extension))

unfoldable pub fields_text : Dynamic → List ℕ
fields_text m = numbers_text m ++ marks_text m

-- whether there is a stride, and the stride; if there is none, four reserved octets
unfoldable pub stride_text : Option ℕ → List ℕ
stride_text s = flag_text (is_some s) ++ quad (unwrap_or s 0)

-- what a previous reference shares with the reference: RND, NBO, the stride, and whether packets carry a UDP
-- checksum
unfoldable pub shared_text : Reference → List ℕ
shared_text r =
    flag_text r.moving.rnd ++ (flag_text r.moving.nbo
    ++ (flag_text r.carries_sum ++ stride_text r.moving.stride))

unfoldable pub reference_text : Reference → List ℕ
reference_text r = fields_text r.moving ++ shared_text r

-- whether there is a reference, and the reference
unfoldable pub held_text : Option Reference → List ℕ
held_text None = flag_text false
held_text (Some r) = flag_text true ++ reference_text r

-- whether there is a previous reference, and that in which it may differ from the reference
unfoldable pub previous_text : Option Reference → List ℕ
previous_text None = flag_text false
previous_text (Some p) = flag_text true ++ fields_text p.moving

-- the number of the state, and what it keeps; the registers of checks aren't saved
unfoldable pub state_text : State → List ℕ
state_text Plain = octet 0
state_text (NoContext nacked) = octet 1 ++ long_text nacked
state_text (StaticContext fixed reference first second) =
    octet 2 ++ (static_text fixed ++ (held_text reference ++ (window_text first ++ window_text second)))
state_text (FullContext fixed reference previous window) =
    octet 3 ++ (static_text fixed ++ (reference_text reference
    ++ (previous_text previous ++ window_text window)))

-- the time of the last accepted arrival, and the state
unfoldable pub saved_text : Record → List ℕ
saved_text r = long_text r.accepted ++ state_text r.state

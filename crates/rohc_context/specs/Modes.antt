-- Laws of modes and references. Words: in_mode_u; the laws.
use Rattle.std.specs.Prelude.{◌≡◌, ◌≢◌, ℕ, ◌/◌, ◌%◌, List, get_or, All, Bool, true, Option, Some, None, is_some, ◌⊎◌, ◌↔◌, ◌<◌, Ok}
use Rattle.rohc_bits.specs.Bits.{IsOctet}
use Rattle.rohc_lsb.specs.Interval.{ExactlyOne}
use Rattle.rohc_frame.specs.declared.header.HeadKind.TheVariants.{IrDyn, Other}
use Rattle.rohc_frame.specs.Header.{Header}
use Rattle.rohc_header.specs.declared.fields.Static.{Static}
use Rattle.rohc_forms.specs.Content.{Content}
use Rattle.rohc_forms.specs.Kinds.{is_uor2}
use Rattle.rohc_context.specs.declared.refusal.Refusal.{Refusal}
use Rattle.rohc_context.specs.declared.reply.Outcome.TheVariants.{Refused, Delivered}
use Rattle.rohc_context.specs.declared.settings.Mode.TheVariants.{U}
use Rattle.rohc_context.specs.declared.settings.Settings.{Settings}
use Rattle.rohc_context.specs.Refusal.{number_of}
use Rattle.rohc_context.specs.Good.{IsGoodRecord}
use Rattle.rohc_context.specs.Record.{Reference, State, Plain, NoContext, StaticContext, FullContext, Record}
use Rattle.rohc_context.specs.Response.{Response, delivered}
use Rattle.rohc_context.specs.Lent.{Saves}
use Rattle.rohc_context.specs.Explains.{Explained, Explains}
use Rattle.rohc_context.specs.Tries.{Fits, unshifted}
use Rattle.rohc_context.specs.Update.{said_under}
use Rattle.rohc_context.specs.Step.{Update, rule, LoneStep, counts}

-- In U mode a step is what it is in O mode, but for the feedback, of which there is none.
abbrev pub IsSilentInU : Type 0
IsSilentInU = (before : Option Record) (s : Settings) (moment : ℕ) (h : Header) (response : Response)
    (next : Option Record) → LoneStep before s moment h response next →
    LoneStep before (record s { mode = U }) moment h (record response { feedback = None }) next

-- A record has a previous reference only if it was in Full Context before, and only by a packet of kind
-- Other, or because it had that one already.
abbrev pub KeepsPrevious : Type 0
KeepsPrevious = (before : Option Record) (s : Settings) (moment : ℕ) (h : Header) (response : Response)
    (after : Record) (fixed : Static) (reference previous : Reference) (window : List Bool) →
    LoneStep before s moment h response (Some after) →
    after.state ≡ FullContext fixed reference (Some previous) window →
    (r : Record) × (also : Static) × (held : Reference) × (other : Option Reference) × (counted : List Bool)
    × (before ≡ Some r) × (r.state ≡ FullContext also held other counted)
    × ((h.kind ≡ Other) ⊎ (other ≡ Some previous))

-- A UOR-2 has one try: it is delivered only as the header that it means against the held reference.
abbrev pub HasOneTry : Type 0
HasOneTry = (r : Record) (fixed : Static) (reference : Reference) (previous : Option Reference)
    (window : List Bool) (s : Settings) (moment : ℕ) (h : Header) (c : Content) (response : Response)
    (next : Option Record) → r.state ≡ FullContext fixed reference previous window →
    counts s moment r ≡ true → h.kind ≡ Other → said_under h reference ≡ Ok c → is_uor2 c.kind ≡ true →
    LoneStep (Some r) s moment h response next → response.outcome ≡ Delivered →
    (e : Explained) × Fits fixed (unshifted reference) c e × (response ≡ delivered e.octets c.payload None)

-- Registers are kept exactly if there is a reference: in profile 0x0001, if the state takes a UOR-2.
abbrev pub SavesByReference : Type 0
SavesByReference = (state : State) (saved : Option (ℕ × ℕ)) → Saves state saved →
    (state ≡ Plain → saved ≡ None)
    × (state ≢ Plain → (is_some saved ≡ true) ↔ (rule state Other 192 ≡ Update))

-- the static part and the reference against which a record's packets are decoded
abbrev pub Holds : State → Static → Reference → Type 0
Holds Plain fixed reference = ⊥
Holds (NoContext nacked) fixed reference = ⊥
Holds (StaticContext also held first second) fixed reference = (also ≡ fixed) × (held ≡ Some reference)
Holds (FullContext also held previous window) fixed reference = (also ≡ fixed) × (held ≡ reference)

-- An IR-DYN without the octet of RTP's flags keeps the X and the stride of the held reference (RFC 3095
-- 5.7.7.6). Its RX is bit 4 of the eleventh octet after the first octet and a large CID.
abbrev pub KeepsFlags : Type 0
KeepsFlags = (r after : Record) (fixed also : Static) (held reference : Reference)
    (previous : Option Reference) (window : List Bool) (s : Settings) (moment : ℕ) (h : Header)
    (response : Response) → Holds r.state fixed held → counts s moment r ≡ true → h.kind ≡ IrDyn →
    All IsOctet h.rest → get_or h.rest 10 0 / 16 % 2 ≡ 0 →
    LoneStep (Some r) s moment h response (Some after) → response.outcome ≡ Delivered →
    after.state ≡ FullContext also reference previous window →
    (reference.moving.extension ≡ held.moving.extension) × (reference.moving.stride ≡ held.moving.stride)

-- A packet of kind Other for which no refusal of 10 to 27 stands means exactly one header, by each shift.
abbrev pub MeansOneUnrefused : Type 0
MeansOneUnrefused = (r : Record) (fixed : Static) (reference : Reference) (s : Settings) (moment : ℕ)
    (h : Header) (response : Response) (next : Option Record) → IsGoodRecord r →
    Holds r.state fixed reference →
    counts s moment r ≡ true → h.kind ≡ Other → All IsOctet h.rest →
    LoneStep (Some r) s moment h response next →
    ((refusal : Refusal) → response.outcome ≡ Refused refusal → 27 < number_of refusal) →
    (c : Content) × (said_under h reference ≡ Ok c)
    × ((shift : ℕ) → ExactlyOne (Explains fixed reference shift c))

use Rattle.std.specs.Prelude.{◌≡◌, ◌≢◌, ℕ, ◌≤◌, List, [], ◌∷◌, length, Bool, true, All, Option, Some, None, IfSome, Result, Ok}
use Rattle.rohc_bits.specs.Bits.{IsOctet}
use Rattle.rohc_lsb.specs.Interval.{ExactlyOne}
use Rattle.rohc_header.specs.declared.fields.Static.{Static}
use Rattle.rohc_header.specs.Original.{longest_payload}
use Rattle.rohc_chain.specs.Good.{IsGoodStatic}
use Rattle.rohc_chain.specs.Packets.{IsIr, Plain as PlainPacket}
use Rattle.rohc_chain.specs.Texts.{IsIrText}
use Rattle.rohc_forms.specs.Content.{Content}
use Rattle.rohc_forms.specs.Good.{IsGoodContent}
use Rattle.rohc_frame.specs.declared.header.HeadKind.TheVariants.{Ir, Other}
use Rattle.rohc_frame.specs.Header.{Header}
use Rattle.rohc_context.specs.declared.fault.Fault.{Fault}
use Rattle.rohc_context.specs.declared.refusal.Refusal.{Refusal}
use Rattle.rohc_context.specs.declared.refusal.Refusal.TheVariants.{NoMemory, Check, StateTooLow}
use Rattle.rohc_context.specs.declared.reply.Outcome.TheVariants.{Refused, Delivered}
use Rattle.rohc_context.specs.declared.settings.Settings.{Settings}
use Rattle.rohc_context.specs.Settings.{limits}
use Rattle.rohc_context.specs.Good.{AreGoodValues, IsGoodRecord}
use Rattle.rohc_context.specs.declared.record.Context.{Context}
use Rattle.rohc_context.specs.Record.{Reference, StaticContext, FullContext, Record, record_of}
use Rattle.rohc_context.specs.Response.{Packet, Response, delivered, refused}
use Rattle.rohc_context.specs.Explains.{Explained, Explains}
use Rattle.rohc_context.specs.Failures.{after_check, after_low_state}
use Rattle.rohc_context.specs.Tries.{Try, Acceptance, Verdict, Fits, unshifted}
use Rattle.rohc_context.specs.Update.{said_under, promoted, updated}
use Rattle.rohc_context.specs.declared.due.Due.TheVariants.{Ack}
use Rattle.rohc_context.specs.Due.{sent}
use Rattle.rohc_context.specs.Honest.{Held, held_by, HoldsInFull, Written, IsHonestPacket, delivery_of, IsInTime}
use Rattle.rohc_context.specs.Outcomes.{fails}
use Rattle.rohc_context.specs.Step.{TooLow, rule, Gives, LoneStep, counts, counting}

-- a step from good values has an answer, and a record after it or none
abbrev pub HasAnswer : Type 0
HasAnswer = (before : Option Record) (s : Settings) (moment : ℕ) (h : Header) →
    AreGoodValues before s moment h →
    (response : Response) × (next : Option Record) × LoneStep before s moment h response next

-- it has no other
abbrev pub HasNoOther : Type 0
HasNoOther = (before : Option Record) (s : Settings) (moment : ℕ) (h : Header) →
    AreGoodValues before s moment h →
    (a b : Response) (x y : Option Record) → LoneStep before s moment h a x →
    LoneStep before s moment h b y → (a ≡ b) × (x ≡ y)

-- that record is good
abbrev pub LeavesGood : Type 0
LeavesGood = (before : Option Record) (s : Settings) (moment : ℕ) (h : Header) →
    AreGoodValues before s moment h →
    (response : Response) (next : Option Record) → LoneStep before s moment h response next →
    IfSome next IsGoodRecord

-- without a record, only an IR leads to one
abbrev pub BeginsByIr : Type 0
BeginsByIr = (s : Settings) (moment : ℕ) (h : Header) (response : Response) (r : Record) →
    LoneStep None s moment h response (Some r) → (dynamic : Bool) × (h.kind ≡ Ir dynamic)

-- without a record, a refused packet leaves none
abbrev pub LeavesNone : Type 0
LeavesNone =
    (s : Settings) (moment : ℕ) (h : Header) (response : Response) (next : Option Record) (refusal : Refusal)
    → LoneStep None s moment h response next → response.outcome ≡ Refused refusal → next ≡ None

-- no step answers NoMemory
abbrev pub NeverPoor : Type 0
NeverPoor =
    (before : Option Record) (s : Settings) (moment : ℕ) (h : Header) (response : Response)
    (next : Option Record) →
    LoneStep before s moment h response next → response.outcome ≢ Refused NoMemory

-- every context that a program holds has a good record
abbrev pub KeepsGood : Type 0
KeepsGood = (c : Context) → IsGoodRecord (record_of c)

-- a refusal other than Check and StateTooLow changes nothing
abbrev pub KeepsRefused : Type 0
KeepsRefused =
    (before : Option Record) (s : Settings) (moment : ℕ) (h : Header) (response : Response)
    (next : Option Record) (refusal : Refusal) →
    LoneStep before s moment h response next → response.outcome ≡ Refused refusal →
    refusal ≢ Check → refusal ≢ StateTooLow → next ≡ before

-- The payload of a delivered packet is at most as long as what followed the header's first octet and CID.
abbrev pub LendsPayload : Type 0
LendsPayload =
    (before : Option Record) (s : Settings) (moment : ℕ) (h : Header) (response : Response)
    (next : Option Record) →
    All IsOctet h.rest → LoneStep before s moment h response next →
    IfSome response.packet (λ (p : Packet). length p.payload ≤ length h.rest)

-- A refusal Check changes nothing if no record counts. Otherwise it is a failure of that record: it leads to
-- the state that follows a failed check, and sends what is due.
abbrev pub ChecksChange : Type 0
ChecksChange = (before : Option Record) (s : Settings) (moment : ℕ) (h : Header) (response : Response)
    (next : Option Record) → LoneStep before s moment h response next → response.outcome ≡ Refused Check →
    (counting s moment before ≡ None → (response ≡ refused Check) × (next ≡ before))
    × ((r : Record) → counting s moment before ≡ Some r →
    Gives s h (fails r Check (after_check (limits s) moment r.state)) response next)

-- A refusal StateTooLow comes from a record that counts, whose state doesn't take the packet. It leads to the
-- state that follows such a packet, and sends what is due.
abbrev pub LowStatesChange : Type 0
LowStatesChange = (before : Option Record) (s : Settings) (moment : ℕ) (h : Header) (response : Response)
    (next : Option Record) → LoneStep before s moment h response next →
    response.outcome ≡ Refused StateTooLow →
    (r : Record) × (counting s moment before ≡ Some r) × (rule r.state h.kind h.first ≡ TooLow)
    × Gives s h (fails r StateTooLow (after_low_state (limits s) moment r.state)) response next

-- Each packet that the state of a record which counts doesn't take is refused so.
abbrev pub LowStatesRefuse : Type 0
LowStatesRefuse = (before : Option Record) (s : Settings) (moment : ℕ) (h : Header) (response : Response)
    (next : Option Record) (r : Record) → counting s moment before ≡ Some r →
    rule r.state h.kind h.first ≡ TooLow → LoneStep before s moment h response next →
    response.outcome ≡ Refused StateTooLow

-- The tries of a packet come to at most one verdict: one header, and the reference against which it was
-- decoded.
abbrev pub ComesToOne : Type 0
ComesToOne = (first : ℕ) (udp_sum stride_known : Bool) (fixed : Static) (c : Content) (tries : List Try)
    (a b : Result Acceptance Fault) → IsGoodContent first udp_sum stride_known c →
    Verdict fixed c tries a → Verdict fixed c tries b → a ≡ b

-- What a packet says, if it is in range and not too long, means exactly one header against any reference and
-- any shift.
abbrev pub MeansOne : Type 0
MeansOne = (first : ℕ) (udp_sum stride_known : Bool) (fixed : Static) (r : Reference) (shift : ℕ)
    (c : Content) → IsGoodStatic fixed →
    IsGoodContent first udp_sum stride_known c → length c.payload ≤ longest_payload →
    ExactlyOne (Explains fixed r shift c)

-- an IR of profile 0x0000 is taken in every state, and delivers the IP packet in its octets
abbrev pub TakesPlain : Type 0
TakesPlain =
    (before : Option Record) (s : Settings) (moment : ℕ) (h : Header) (octet : ℕ) (packet : List ℕ)
    (response : Response) (next : Option Record) →
    IsIr h.kind → IsIrText h (PlainPacket (octet ∷ packet)) → LoneStep before s moment h response next →
    (response.packet ≡ Some (record { head = []; payload = octet ∷ packet })) × (response.outcome ≡ Delivered)

-- The honest step. Let the record count and be in Full Context. A packet that means a header against the held
-- reference, and carries that header's check, is delivered as that header. The state stays, with the next
-- reference.
abbrev pub DeliversHonest : Type 0
DeliversHonest =
    (accepted : ℕ) (fixed : Static) (reference : Reference) (previous : Option Reference) (window : List Bool)
    (s : Settings) (moment : ℕ)
    (h : Header) (c : Content) (e : Explained) (response : Response) (next : Option Record) →
    h.kind ≡ Other → All IsOctet h.rest → said_under h reference ≡ Ok c → length c.payload ≤ longest_payload →
    Fits fixed (unshifted reference) c e →
    counts s moment (record {
      accepted = accepted;
      state =
          FullContext fixed reference previous window;
    }) ≡ true →
    LoneStep (Some (record {
      accepted = accepted;
      state =
          FullContext fixed reference previous window;
    })) s moment h response next →
    (response ≡ delivered e.octets c.payload None) ×
    (next ≡ Some (record {
      accepted = moment;
      state =
          updated fixed reference window (record { content = c; reference = reference; header = e });
    }))

-- From Static Context such a packet of a UOR-2 format is delivered and acknowledged, and leads to Full
-- Context.
abbrev pub PromotesHonest : Type 0
PromotesHonest =
    (accepted : ℕ) (fixed : Static) (reference : Reference) (first second : List Bool)
    (s : Settings) (moment : ℕ)
    (h : Header) (content : Content) (header : Explained) (response : Response) (next : Option Record) →
    h.kind ≡ Other → 192 ≤ h.first → All IsOctet h.rest → said_under h reference ≡ Ok content →
    length content.payload ≤ longest_payload → Fits fixed (unshifted reference) content header →
    counts s moment (record {
      accepted = accepted;
      state =
          StaticContext fixed (Some reference) first second;
    }) ≡ true →
    LoneStep (Some (record {
      accepted = accepted;
      state =
          StaticContext fixed (Some reference) first second;
    })) s moment h response next →
    (response ≡ delivered header.octets content.payload (sent s.mode h (Ack header.moving.sn))) ×
    (next ≡ Some (record {
      accepted = moment;
      state =
          promoted fixed (record { content = content; reference = reference; header = header });
    }))

-- A packet written against what Full Context holds is delivered as it was written. Full Context then holds
-- its header as the reference.
abbrev pub DeliversWritten : Type 0
DeliversWritten = (held : Held) (before : Record) (s : Settings) (moment : ℕ) (p : Written)
    (response : Response) (next : Option Record) →
    HoldsInFull held before → IsHonestPacket held p → IsInTime s before.accepted moment →
    LoneStep (Some before) s moment p.packet response next →
    (response ≡ delivery_of p) × ((after : Record) × (next ≡ Some after) × (after.accepted ≡ moment) ×
    HoldsInFull (held_by held p.header) after)

-- There is a packet that is written for a header.
abbrev pub HasWritten : Type 0
HasWritten = (held : Held) × (p : Written) × IsHonestPacket held p

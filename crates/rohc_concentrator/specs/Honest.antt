-- What is delivered was sent: a sender's packets, some of which are lost (RFC 3095 4.5.2).
-- Words: IsOrdinary, IsHonest; Arrived, Reaches, AreInTime; events_of, deliveries; Sender, IsHonestCall;
-- IsHonestByPlaces.
use Rattle.std.specs.Prelude.{◌≡◌, ◌≢◌, ℕ, ◌+◌, ◌<◌, ◌≤◌, ◌^◌, List, [], ◌∷◌, ◌++◌, map, length, take, All, AllPairs, Option, Some, None, ◌⊎◌}
use Rattle.rohc_frame.specs.declared.header.HeadKind.TheVariants.{Other}
use Rattle.rohc_frame.specs.Laws.{IsOctet}
use Rattle.rohc_context.specs.declared.settings.Settings.{Settings}
use Rattle.rohc_context.specs.Good.{IsGoodRecord, IsGoodHeader}
use Rattle.rohc_context.specs.Settings.{AreGood}
use Rattle.rohc_context.specs.Honest.{Held, held_by, HoldsInFull, Written, IsHonestPacket, delivery_of, IsInTime}
use Rattle.rohc_context.specs.Record.{Record}
use Rattle.rohc_context.specs.Response.{Response}
use Rattle.rohc_concentrator.specs.LoneRun.{LoneEvent, Arrival, LoneRun}

-- what a packet is that arrives: of kind Other and without an extension 3, and rebuilt it has at most 65,535
-- octets
pub record IsOrdinary (p : Written) : Type 0 where
  pub kind : p.packet.kind ≡ Other
  pub octets : All IsOctet p.packet.rest
  pub no_values : p.content.values ≡ None
  pub few : 40 + length p.content.payload ≤ 65535

-- Honest writing, from these references on, the newest first: each packet is written for its header against
-- the newest w, and then its header is one more. A packet that isn't ordinary may be anything, as long as it
-- is lost.
abbrev pub IsHonestFrom : (w : ℕ) → (first : Held) → (references : List Held) → List Written → Type 0
IsHonestFrom w first references [] = Unit {0}
IsHonestFrom w first references (p ∷ sent) =
    (IsOrdinary p → All (λ held. IsHonestPacket held p) (take w references))
    × IsHonestFrom w first (held_by first p.header ∷ references) sent

-- before the first packet there is one reference
abbrev pub IsHonest : (w : ℕ) → (first : Held) → List Written → Type 0
IsHonest w first sent = IsHonestFrom w first (first ∷ []) sent

-- a packet and its arrival time
pub record Arrived : Type 0 where
  pub moment : ℕ
  pub written : Written

-- Some of the packets that are sent arrive, in their order, and before each of them fewer than w are lost in
-- a row.
abbrev pub Reaches : (w : ℕ) → (sent arrived : List Written) → Type 0
Reaches w sent [] = Unit {0}
Reaches w sent (p ∷ arrived) =
    (lost rest : List Written) × (sent ≡ lost ++ p ∷ rest) × (length lost < w) × Reaches w rest arrived

-- each arrival finds a record that counts: it comes less than idle_ms after the one before
abbrev pub AreInTime : Settings → (accepted : ℕ) → List Arrived → Type 0
AreInTime s accepted [] = Unit {0}
AreInTime s accepted (a ∷ arrivals) = IsInTime s accepted a.moment × AreInTime s a.moment arrivals

-- the arrivals as events of one context
abbrev pub events_of : List Arrived → List LoneEvent
events_of arrivals = map (λ (a : Arrived). Arrival a.moment a.written.packet) arrivals

-- the headers and payloads that they were written for
abbrev pub deliveries : List Arrived → List Response
deliveries arrivals = map (λ (a : Arrived). delivery_of a.written) arrivals

-- a sender: for how many references it writes, what is held first, and the packets that it sends
pub record Sender : Type 0 where
  pub w : ℕ
  pub first : Held
  pub sent : List Written

-- an honest sender, and the packets of it that arrive at a record in Full Context
pub record IsHonestCall (sender : Sender) (s : Settings) (before : Record) (arrivals : List Arrived) : Type 0
  where
    pub held : HoldsInFull sender.first before
    pub honest : IsHonest sender.w sender.first sender.sent
    pub reaches : Reaches sender.w sender.sent (map (λ (a : Arrived). a.written) arrivals)
    pub ordinary : All (λ (a : Arrived). IsOrdinary a.written) arrivals
    pub in_time : AreInTime s before.accepted arrivals

-- What is delivered was sent: the lone run over these arrivals delivers the headers and payloads that the
-- packets were written for, in their order, and nothing else.
abbrev pub DeliversWhatWasSent : Type 0
DeliversWhatWasSent = (sender : Sender) (s : Settings) (before : Record) (arrivals : List Arrived)
    (replies : List Response) (after : Option Record) →
    IsHonestCall sender s before arrivals → LoneRun s (Some before) (events_of arrivals) replies after →
    replies ≡ deliveries arrivals

-- an arrival of a good header, whose time has 64 bits
abbrev pub IsGoodArrival : Settings → Arrived → Type 0
IsGoodArrival s a = (a.moment < 2 ^ 64) × IsGoodHeader s a.written.packet

-- Such a run exists if all values are good.
abbrev pub HasHonestRun : Type 0
HasHonestRun = (s : Settings) (before : Record) (arrivals : List Arrived) →
    IsGoodRecord before → AreGood s → All (IsGoodArrival s) arrivals →
    (replies : List Response) × (after : Option Record) ×
    LoneRun s (Some before) (events_of arrivals) replies after

-- Nothing is asked of packets of another kind, with an extension 3 or too long: a sender of these alone is
-- honest.
abbrev pub AsksOrdinaryAlone : Type 0
AsksOrdinaryAlone = (w : ℕ) (first : Held) (sent : List Written) →
    All (λ (p : Written). (p.packet.kind ≢ Other) ⊎ (p.content.values ≢ None)
    ⊎ (65535 < 40 + length p.content.payload)) sent → IsHonest w first sent

-- what a receiver may hold after these packets: the first reference, or the header of one of them
abbrev pub references : (first : Held) → List Written → List Held
references first written = first ∷ map (λ (p : Written). held_by first p.header) written

-- The same said by places: each packet is written against every reference with fewer than w others between
-- them and the packet.
abbrev pub IsHonestByPlaces : (w : ℕ) → (first : Held) → List Written → Type 0
IsHonestByPlaces w first sent =
    (earlier later : List Written) (p : Written) (older newer : List Held) (held : Held) →
    sent ≡ earlier ++ p ∷ later → references first earlier ≡ older ++ held ∷ newer → length newer < w →
    IsOrdinary p → IsHonestPacket held p

abbrev pub IsHonestEitherWay : Type 0
IsHonestEitherWay = (w : ℕ) (first : Held) (sent : List Written) →
    (IsHonest w first sent → IsHonestByPlaces w first sent)
    × (IsHonestByPlaces w first sent → IsHonest w first sent)

-- The premise can be met by a call with a loss. Some sender writes three packets, each for the last 14
-- references. The second is lost. The run over the other two, from a record in Full Context, delivers two
-- headers, and the three headers differ.
abbrev pub HasHonestSender : Type 0
HasHonestSender = (sender : Sender) × (s : Settings) × (before : Record) × (a : Arrived) × (lost : Written) ×
    (b : Arrived) × (after : Option Record) ×
    (sender.w ≡ 14) × (sender.sent ≡ a.written ∷ lost ∷ b.written ∷ []) ×
    AllPairs (λ (p q : Written). p.header.octets ≢ q.header.octets) sender.sent ×
    IsHonestCall sender s before (a ∷ b ∷ []) ×
    LoneRun s (Some before) (events_of (a ∷ b ∷ []))
    (delivery_of a.written ∷ delivery_of b.written ∷ []) after

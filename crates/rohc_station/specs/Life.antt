-- A station's whole life. Words: StationCall, StationTurn, IsTurn; Life, IsLife, calls_in; LifeIsRun,
-- LifeKeepsSound; IsolatedLife, IsolatedLinkLife; SameLives, SameLinkLives.
use Rattle.std.specs.Prelude.{◌≡◌, ℕ, ◌<◌, ◌^◌, List, [], ◌∷◌, All, Option, Some, None, Result, Ok, Err, ⊤}
use Rattle.std.specs.List.{AllByRecursion, flat_map}
use Rattle.rohc_frame.specs.Laws.{IsOctet}
use Rattle.rohc_concentrator.specs.declared.setting.LinkSetting.{LinkSetting}
use Rattle.rohc_concentrator.specs.Seen.{seen_at, view_at}
use Rattle.rohc_concentrator.specs.Calls.{CallAnswer, ForgetExpired}
use Rattle.rohc_concentrator.specs.RunsCall.{Turn, Runs}
use Rattle.rohc_concentrator.specs.OwnCalls.{calls_to, answers_to, IsIsolated}
use Rattle.rohc_concentrator.specs.LinkCalls.{calls_on, answers_on, LinkRun}
use Rattle.rohc_concentrator.specs.Sound.{IsInOrder}
use Rattle.rohc_links.specs.Links.{Lists}
use Rattle.rohc_saved.specs.declared.fault.LinkFault.{LinkFault}
use Rattle.rohc_saved.specs.declared.restored.Restored.{Restored}
use Rattle.rohc_station.specs.declared.station.Station.{Station}
use Rattle.rohc_station.specs.declared.reload.ReloadReport.{ReloadReport}
use Rattle.rohc_station.specs.declared.reload.ReloadFault.{ReloadFault}
use Rattle.rohc_station.specs.Timed.{TimedPacket}
use Rattle.rohc_station.specs.Told.{Told}
use Rattle.rohc_station.specs.declared.limits.LinkLimits.{LinkLimits}
use Rattle.rohc_station.specs.Taking.{Takes, TakesKnown, FailsSends, SetsLimits}
use Rattle.rohc_station.specs.Reload.{Reloads, ReloadStays}
use Rattle.rohc_station.specs.Reset.{reset_call, forget_turn, Forgets}
use Rattle.rohc_station.specs.Importing.{Imports}

-- One call of a station, with what it told. In a second of the gateway's clock a datagram was taken, as it
-- was read, or was taken while no call is begun; records of a link were forgotten, or that of one CID, or
-- those that had expired at a moment; the links of a file were taken, or not; a number of sends failed for a
-- datagram of a link; a link was given limits. A packet that is turned away is no call of the concentrator,
-- and withheld feedback is still its answer.
pub data StationCall : Type 0 where
  Take : ℕ → Option TimedPacket → Told → StationCall
  TakeKnown : ℕ → Option TimedPacket → Told → StationCall
  Reset : ℕ → Option ℕ → CallAnswer → StationCall
  Expire : ℕ → ℕ → CallAnswer → StationCall
  Reload : Lists → Result ReloadReport ReloadFault → StationCall
  Import : ℕ → List ℕ → Result Restored LinkFault → StationCall
  AddFailedSends : Option ℕ → ℕ → StationCall
  SetLimits : ℕ → LinkLimits → StationCall

-- with the calls that it made of its concentrator
pub record StationTurn : Type 0 where
  pub call : StationCall
  pub calls : List Turn

-- each turn is what the contract of its call says
abbrev pub IsTurn : Station → StationCall → List Turn → Station → Type 0
IsTurn old (Take second read told) calls new = Takes old new second read told calls
IsTurn old (TakeKnown second read told) calls new = TakesKnown old new second read told calls
IsTurn old (Reset link cid answer) calls new =
    Forgets old new link (reset_call cid) answer × (calls ≡ forget_turn link (reset_call cid) answer ∷ [])
IsTurn old (Expire link moment answer) calls new =
    Forgets old new link (ForgetExpired moment) answer
    × (calls ≡ forget_turn link (ForgetExpired moment) answer ∷ [])
IsTurn old (Reload file (Ok report)) calls new = Reloads old file report calls new
IsTurn old (Reload file (Err fault)) calls new = ReloadStays old file fault calls new
IsTurn old (Import link octets result) calls new = Imports old new link octets result calls
IsTurn old (AddFailedSends link failed) calls new = FailsSends old new link failed × (calls ≡ [])
IsTurn old (SetLimits link limits) calls new = SetsLimits old new link limits × (calls ≡ [])

-- a life from outside: the station before it and after it, and its turns
pub record Life : Type 0 where
  pub before : Station
  pub after : Station
  pub turns : List StationTurn

-- the turns, one after the other
abbrev pub TakesTurns : Station → List StationTurn → Station → Type 0
TakesTurns old [] new = new ≡ old
TakesTurns old (turn ∷ turns) new =
    (mid : Station) × IsTurn old turn.call turn.calls mid × TakesTurns mid turns new

abbrev pub IsLife : Life → Type 0
IsLife life = TakesTurns life.before life.turns life.after

-- all calls of the concentrator, in their order
abbrev pub calls_in : Life → List Turn
calls_in life = flat_map (λ (t : StationTurn). t.calls) life.turns

-- a packet that was read has a moment of 64 bits and consists of octets, and the numbers of a file's links
-- have 16 bits
abbrev pub IsFitPacket : Option TimedPacket → Type 0
IsFitPacket None = ⊤
IsFitPacket (Some t) = (t.moment < 2 ^ 64) × All IsOctet t.packet

abbrev pub IsFit : StationCall → Type 0
IsFit (Take second read told) = IsFitPacket read
IsFit (TakeKnown second read told) = IsFitPacket read
IsFit (Reload file result) = All (λ (s : LinkSetting). s.link < 65536) file.settings
IsFit call = ⊤

abbrev pub IsFitLife : Life → Type 0
IsFitLife life = AllByRecursion (λ (t : StationTurn). IsFit t.call) life.turns

-- A whole life is one run of the concentrator.
abbrev pub LifeIsRun : Type 0
LifeIsRun = (life : Life) → IsLife life →
    Runs life.before.concentrator (calls_in life) life.after.concentrator

-- It keeps a sound concentrator sound.
abbrev pub LifeKeepsSound : Type 0
LifeKeepsSound = (life : Life) → IsLife life → IsFitLife life →
    IsInOrder life.before.concentrator → IsInOrder life.after.concentrator

-- So a whole life isolates each CID of each link, whatever comes for others and whatever files say.
abbrev pub IsolatedLife : Type 0
IsolatedLife = (life : Life) → IsLife life → (l c : ℕ) →
    IsIsolated life.before.concentrator life.after.concentrator (calls_in life) l c

-- And each link.
abbrev pub IsolatedLinkLife : Type 0
IsolatedLinkLife = (life : Life) → IsLife life → (l : ℕ) →
    LinkRun (view_at life.before.concentrator l) (calls_on l (calls_in life)) (answers_on l (calls_in life))
    (view_at life.after.concentrator l)

-- Let a CID see the same calls in two lives that begin alike for it. Then it gets the same answers, lack of
-- memory and too many links aside, and both end alike for it.
abbrev pub SameLives : Type 0
SameLives = (a b : Life) (l c : ℕ) → IsLife a → IsLife b → IsFitLife a →
    seen_at a.before.concentrator l c ≡ seen_at b.before.concentrator l c →
    calls_to l c a.before.concentrator (calls_in a) ≡ calls_to l c b.before.concentrator (calls_in b) →
    (answers_to l c a.before.concentrator (calls_in a) ≡ answers_to l c b.before.concentrator (calls_in b))
    × (seen_at a.after.concentrator l c ≡ seen_at b.after.concentrator l c)

-- The same of a link.
abbrev pub SameLinkLives : Type 0
SameLinkLives = (a b : Life) (l : ℕ) → IsLife a → IsLife b → IsFitLife a →
    view_at a.before.concentrator l ≡ view_at b.before.concentrator l →
    calls_on l (calls_in a) ≡ calls_on l (calls_in b) →
    (answers_on l (calls_in a) ≡ answers_on l (calls_in b))
    × (view_at a.after.concentrator l ≡ view_at b.after.concentrator l)

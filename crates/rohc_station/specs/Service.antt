-- The way of datagrams through a gateway. Words: View, view; is_timed_at, datagram_at a port; IsReceived,
-- Receives; AnswersUnless, Handles; TurnsOn, TurnsIn, Serves; AnswersEach; Among, AreAnswers; ServesInLife.
use Rattle.std.specs.Prelude.{◌≡◌, ℕ, ◌≤◌, List, [], ◌∷◌, ◌++◌, length, take, Bool, true, false, Option, Some, None, ⊤, ◌⊎◌}
use Rattle.std.specs.List.{AllByRecursion}
use Rattle.rohc_serve.specs.Acts.{Act, Received, AddsActs}
use Rattle.rohc_serve.specs.Sending.{packet_octets, numbered}
use Rattle.rohc_station.specs.declared.duty.Duty.{Duty}
use Rattle.rohc_station.specs.declared.moves.Moves.{Moves}
use Rattle.rohc_station.specs.declared.service.Port.{Port}
use Rattle.rohc_station.specs.declared.service.Port.TheVariants.{Plain, Timed, Link}
use Rattle.rohc_station.specs.declared.service.Service.{Service}
use Rattle.rohc_station.specs.declared.station.Station.{Station}
use Rattle.rohc_station.specs.Limits.{second_of}
use Rattle.rohc_station.specs.Timed.{TimedPacket}
use Rattle.rohc_station.specs.Told.{Told}
use Rattle.rohc_station.specs.Recorded.{arrival_in}
use Rattle.rohc_station.specs.Answering.{link_in, AnswersRead}
use Rattle.rohc_station.specs.Life.{StationTurn, Take, TakeKnown, AddFailedSends, TakesTurns}
use Rattle.rohc_station.specs.Held.{HeldDatagram, came}
use Rattle.rohc_station.specs.Moves.{HoldsBack}

-- what is seen of a service from outside: its station, the links that are moved, and what its front was asked
pub record View : Type 0 where
  pub station : Station
  pub moves : Moves
  pub acts : Option (List Act)

abbrev pub view : Service → Option (List Act) → View
view s acts = record { station = s.station; moves = s.moves; acts = acts }

-- at which ports datagrams have their moment in them
abbrev pub is_timed_at : Port → Bool
is_timed_at Plain = false
is_timed_at Timed = true
is_timed_at (Link link) = false

-- what came at the port of a link becomes a datagram with the number of the link
abbrev pub datagram_at : Port → List ℕ → List ℕ
datagram_at Plain octets = octets
datagram_at Timed octets = octets
datagram_at (Link link) octets = packet_octets (numbered link octets)

-- the size and the moment of what was received, which the buffer begins with
abbrev pub IsReceived : Port → (given : Option (ℕ × List ℕ)) → Option (ℕ × ℕ) → (buffer : List ℕ) → Type 0
IsReceived port None None buffer = ⊤
IsReceived port None (Some found) buffer = ⊥
IsReceived port (Some given) None buffer = ⊥
IsReceived port (Some (moment, octets)) (Some (size, at)) buffer =
    (at ≡ moment) × (size ≤ length buffer) × (take size buffer ≡ datagram_at port octets)

-- one receive
pub record Receives (port : Port) (before after : Option (List Act)) (found : Option (ℕ × ℕ))
    (buffer : List ℕ) : Type 0 where
  pub given : Option (ℕ × List ℕ)
  pub acts : AddsActs before after (Received given ∷ [])
  pub is : IsReceived port given found buffer

-- A datagram that isn't held back is answered. For one that is, nothing is taken or sent.
abbrev pub AnswersUnless : (is_back : Bool) → Duty → (old new : View) → HeldDatagram → Type 0
AnswersUnless true duty old new d = (new.station ≡ old.station) × (new.acts ≡ old.acts)
AnswersUnless false duty old new d = (told : Told) × AnswersRead duty d.moment old.station new.station
    (arrival_in d.is_timed d.moment d.octets) told old.acts new.acts

-- a datagram is held back, or answered
pub record Handles (duty : Duty) (old new : View) (d : HeldDatagram) : Type 0 where
  pub is_back : Bool
  pub holds : HoldsBack old.moves new.moves d is_back
  pub answers : AnswersUnless is_back duty old new d

-- One receive, and what follows. If it failed nothing changes, otherwise the datagram that came is handled.
abbrev pub TurnsOn : Port → Duty → View → (given : Option (ℕ × List ℕ)) → View → Type 0
TurnsOn port duty old None new = (new.station ≡ old.station) × (new.moves ≡ old.moves)
    × AddsActs old.acts new.acts (Received None ∷ [])
TurnsOn port duty old (Some (moment, octets)) new = (acts : Option (List Act))
    × AddsActs old.acts acts (Received (Some (moment, octets)) ∷ [])
    × Handles duty (record old { acts = acts }) new (came moment (is_timed_at port) (datagram_at port octets))

-- one receive after the other: each datagram is handled before the next one is received
abbrev pub TurnsIn : Port → Duty → View → List (Option (ℕ × List ℕ)) → View → Type 0
TurnsIn port duty old [] new = new ≡ old
TurnsIn port duty old (given ∷ more) new =
    (mid : View) × TurnsOn port duty old given mid × TurnsIn port duty mid more new

-- so what waits at a port is served, at most so many receives at a time
pub record Serves (port : Port) (duty : Duty) (most : ℕ) (old new : View) : Type 0 where
  pub given : List (Option (ℕ × List ℕ))
  pub turns : TurnsIn port duty old given new
  pub within : length given ≤ most

-- These are answered, each once and in their order. Nothing is held back.
abbrev pub AnswersEach : Duty → View → List HeldDatagram → View → Type 0
AnswersEach duty old [] new = new ≡ old
AnswersEach duty old (d ∷ more) new = (mid : View) × AnswersUnless false duty old mid d
    × (mid.moves ≡ old.moves) × AnswersEach duty mid more new

-- ---- The turns of answers in the life of a station

abbrev pub IsTake : (is_draining : Bool) → (second : ℕ) → Option TimedPacket → StationTurn → Type 0
IsTake true second read turn = (told : Told) × (turn.call ≡ TakeKnown second read told)
IsTake false second read turn = (told : Told) × (turn.call ≡ Take second read told)

abbrev pub CountsFailed : (link : Option ℕ) → StationTurn → Type 0
CountsFailed link turn = (failed : ℕ) × (turn.call ≡ AddFailedSends link failed)

-- the turns of one answer: the datagram is taken, and then sends that failed are counted
pub record AreTurnsOf (duty : Duty) (d : HeldDatagram) (turns : List StationTurn) : Type 0 where
  pub first : StationTurn
  pub counting : List StationTurn
  pub both : turns ≡ first ∷ counting
  pub takes : IsTake duty.is_draining (second_of d.moment) (arrival_in d.is_timed d.moment d.octets) first
  pub counts : AllByRecursion (CountsFailed (link_in (arrival_in d.is_timed d.moment d.octets))) counting

-- the turns are the answers to exactly these datagrams, each once and in their order
abbrev pub AreAnswers : Duty → List HeldDatagram → List StationTurn → Type 0
AreAnswers duty [] turns = turns ≡ []
AreAnswers duty (d ∷ more) turns = (first later : List StationTurn) × AreTurnsOf duty d first
    × AreAnswers duty more later × (turns ≡ first ++ later)

-- the datagrams that came, in their order
abbrev pub came_at : Port → List (Option (ℕ × List ℕ)) → List HeldDatagram
came_at port [] = []
came_at port (None ∷ more) = came_at port more
came_at port (Some (moment, octets) ∷ more) =
    came moment (is_timed_at port) (datagram_at port octets) ∷ came_at port more

-- the first are some of the second, in their order
abbrev pub Among : {X : Type 0} → List X → List X → Type 0
Among [] ys = ⊤
Among (x ∷ xs) [] = ⊥
Among (x ∷ xs) (y ∷ ys) = ((x ≡ y) × Among xs ys) ⊎ Among (x ∷ xs) ys

-- What a service does at a port is part of the life of its station, which is isolated: it answers datagrams
-- that came, in their order.
abbrev pub ServesInLife : Type 0
ServesInLife = (port : Port) (duty : Duty) (old new : View) (given : List (Option (ℕ × List ℕ))) →
    TurnsIn port duty old given new → (answered : List HeldDatagram) × (turns : List StationTurn)
    × Among answered (came_at port given) × AreAnswers duty answered turns
    × TakesTurns old.station turns new.station

-- What a station sends for a datagram. Words: TakesAs; link_in, number_in; CountsFailures; AnswersRead;
-- TakenIsAnswered.
use Rattle.std.specs.Prelude.{◌≡◌, ℕ, zero, suc, List, Bool, true, false, Option, Some, None}
use Rattle.std.specs.Option.{option_map}
use Rattle.rohc_concentrator.specs.RunsCall.{Turn}
use Rattle.rohc_serve.specs.Acts.{Act}
use Rattle.rohc_serve.specs.Datagram.{AnswersOn}
use Rattle.rohc_serve.specs.Sending.{OffersSends, sends_in, unsent}
use Rattle.rohc_station.specs.declared.duty.Duty.{Duty}
use Rattle.rohc_station.specs.declared.station.Station.{Station}
use Rattle.rohc_station.specs.Limits.{second_of}
use Rattle.rohc_station.specs.Timed.{TimedPacket}
use Rattle.rohc_station.specs.Told.{Told}
use Rattle.rohc_station.specs.Taking.{TakesPacket, Takes, TakesKnown, FailsSends}

-- a datagram is taken; while the gateway drains, only if it begins no call
abbrev pub TakesAs : (is_draining : Bool) → Station → Station → (second : ℕ) → Option TimedPacket → Told
    → List Turn → Type 0
TakesAs true old new second read told calls = TakesKnown old new second read told calls
TakesAs false old new second read told calls = Takes old new second read told calls

abbrev pub link_in : Option TimedPacket → Option ℕ
link_in read = option_map (λ (t : TimedPacket). t.link) read

-- the number behind which elements are sent, if they are to be numbered
abbrev pub number_in : (is_numbered : Bool) → Option TimedPacket → Option ℕ
number_in true read = link_in read
number_in false read = None

-- sends that failed are counted for the link; none change nothing
abbrev pub CountsFailures : Station → Station → Option ℕ → (failed : ℕ) → Type 0
CountsFailures old new link zero = new ≡ old
CountsFailures old new link (suc n) = FailsSends old new link (suc n)

-- A datagram is taken at a moment of the gateway's clock, what is to be sent for it is offered in its order,
-- and nothing else. The sends that failed are counted.
pub record AnswersRead (duty : Duty) (now : ℕ) (old new : Station) (read : Option TimedPacket) (told : Told)
    (before after : Option (List Act)) : Type 0 where
  pub calls : List Turn
  pub mid : Station
  pub taken : TakesAs duty.is_draining old mid (second_of now) read told calls
  pub failed : ℕ
  pub offers : OffersSends (sends_in (number_in duty.is_numbered read) told.outgoing)
      (unsent (number_in duty.is_numbered read) told.outgoing) before after failed
  pub counts : CountsFailures mid new (link_in read) failed

-- What is told of a packet that was taken is what `answer_datagram` sends for it.
abbrev pub TakenIsAnswered : Type 0
TakenIsAnswered = (old new : Station) (t : TimedPacket) (told : Told) (calls : List Turn) →
    TakesPacket old new t.link t.moment t.packet told calls →
    AnswersOn old.links old.concentrator t.moment (Some t.link) t.packet told.outgoing new.concentrator

-- A datagram is taken as it was read, and answered.
use Rattle.std.proofs.Common.{◌≡◌, ◌∙◌, ◌&&◌, ℕ, List, Bool, false, Option, Some, sym, ap, subst}
use Rattle.std.specs.Option.{option_map}
use Rattle.rohc_concentrator.specs.RunsCall.{Turn}
use Rattle.rohc_serve.specs.Acts.{Act}
use Rattle.rohc_serve.specs.Sending.{OffersSends, sends_in, unsent}
use Rattle.rohc_station.specs.declared.duty.Duty.{Duty}
use Rattle.rohc_station.specs.declared.limits.Limiter.{Limiter}
use Rattle.rohc_station.specs.declared.station.Station.{Station}
use Rattle.rohc_station.specs.declared.timed.Timed.{Timed}
use Rattle.rohc_station.specs.Limits.{second_of, is_full}
use Rattle.rohc_station.specs.Timed.{TimedPacket, plain_timed}
use Rattle.rohc_station.specs.Told.{Told}
use Rattle.rohc_station.specs.Taking.{limiter_at, trimmed_by, trimmed_at, begins_call, begins_limited, turns_away, Takes, TakesIf, TakesWithin, TakesUnless, TakesStanding, TakesKnown}
use Rattle.rohc_station.specs.Answering.{TakesAs, CountsFailures, AnswersRead, link_in, number_in}

-- a packet loses what a layer below added behind it, as the limits of its link say
module _ (old new : Station) (limiter : Limiter) (read : Option Timed) (arrival cut : Timed) (told : Told)
    (is : read ≡ Some arrival) (known : limiter ≡ limiter_at old arrival.link)
    (loses : plain_timed cut ≡ trimmed_by limiter.limits.payload old.concentrator (plain_timed arrival)) where
  same : plain_timed cut ≡ trimmed_at old (plain_timed arrival)
  same = loses ∙ ap (λ (l : Limiter). trimmed_by l.limits.payload old.concentrator (plain_timed arrival)) known

  pub takes_read : (given second : ℕ) → given ≡ second →
      ((calls : List Turn) × TakesWithin old new given (plain_timed cut) told calls) →
      (calls : List Turn) × Takes old new second (option_map plain_timed read) told calls
  takes_read given second at (calls, takes) = (
    calls,
    subst (λ (r : Option Timed). Takes old new second (option_map plain_timed r) told calls) (sym is)
        (subst (λ (t : TimedPacket). TakesWithin old new second t told calls) same
        (subst (λ (n : ℕ). TakesWithin old new n (plain_timed cut) told calls) at takes)),
  )

  pub takes_standing : (given second : ℕ) (begins : Bool) → given ≡ second → begins ≡ false →
      begins ≡ begins_call old.concentrator (plain_timed cut) →
      ((calls : List Turn) × TakesWithin old new given (plain_timed cut) told calls) →
      (calls : List Turn) × TakesKnown old new second (option_map plain_timed read) told calls
  takes_standing given second begins at none asked (calls, takes) = (
    calls,
    subst (λ (r : Option Timed). TakesKnown old new second (option_map plain_timed r) told calls) (sym is)
        (subst (λ (t : TimedPacket). TakesStanding old new second t told calls) same
        (subst (λ (b : Bool). TakesUnless b old new second (plain_timed cut) told calls) (sym none ∙ asked)
        (subst (λ (n : ℕ). TakesWithin old new n (plain_timed cut) told calls) at takes))),
  )

-- a packet that isn't turned away is taken
pub takes_within : (old new : Station) (second : ℕ) (t : TimedPacket) (told : Told) (limiter : Limiter) (begins away : Bool) →
    limiter ≡ limiter_at old t.link → begins ≡ begins_limited old t → away ≡ (begins && is_full second limiter) → away ≡ false →
    ((calls : List Turn) × TakesIf false old new second t told calls) → (calls : List Turn) × TakesWithin old new second t told calls
takes_within old new second t told limiter begins away known begun asked none (calls, takes) =
    let is : false ≡ turns_away old second t =
    sym none ∙ asked ∙ ap (λ b. b && is_full second limiter) begun ∙ ap (λ (l : Limiter). begins_limited old t && is_full second l) known in
    (calls, subst (λ (b : Bool). TakesIf b old new second t told calls) is takes)

-- what was taken is sent, and its failures are counted
pub answers_read : (duty : Duty) (now : ℕ) (old mid new : Station) (read : Option TimedPacket) (told : Told)
    (before after : Option (List Act)) (number link : Option ℕ) (failed : ℕ) →
    ((calls : List Turn) × TakesAs duty.is_draining old mid (second_of now) read told calls) →
    number ≡ number_in duty.is_numbered read →
    OffersSends (sends_in number told.outgoing) (unsent number told.outgoing) before after failed →
    link ≡ link_in read → CountsFailures mid new link failed → AnswersRead duty now old new read told before after
answers_read duty now old mid new read told before after number link failed (calls, takes) numbered offers linked counts = record {
  calls = calls;
  mid = mid;
  taken = takes;
  failed = failed;
  offers = subst (λ (n : Option ℕ). OffersSends (sends_in n told.outgoing) (unsent n told.outgoing) before after failed) numbered offers;
  counts = subst (λ (l : Option ℕ). CountsFailures mid new l failed) linked counts;
}

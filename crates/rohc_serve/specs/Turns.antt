-- Turns of a server, each one receive. Words: ServeTurn, acts_in, counts_in; ServesTurn, ServesTurns;
-- IsServeTally; Service, service; Serves; with_turn, TakesOne.
use Rattle.std.specs.Prelude.{◌≡◌, ℕ, ◌+◌, List, [], ◌∷◌, length, map, Option, Some, None}
use Rattle.std.specs.List.{flat_map, sum_by}
use Rattle.rohc_concentrator.specs.declared.concentrator.Concentrator.{Concentrator}
use Rattle.rohc_links.specs.Links.{Lists}
use Rattle.rohc_links.specs.Limits.{counted}
use Rattle.rohc_serve.specs.declared.tally.ServeTally.{ServeTally}
use Rattle.rohc_serve.specs.Outgoing.{Outgoing}
use Rattle.rohc_serve.specs.Datagram.{Answers}
use Rattle.rohc_serve.specs.Tally.{counts_of, added}
use Rattle.rohc_serve.specs.Acts.{Attempt, Act, Received, Sent, AddsActs}
use Rattle.rohc_serve.specs.Sending.{sends_in, unsent, offered, failures}

-- A failed receive, or a datagram: its arrival time and octets, what was to be sent for it, and the attempts
-- to send it.
pub data ServeTurn : Type 0 where
  Missed : ServeTurn
  Answered : ℕ → List ℕ → Outgoing → List Attempt → ServeTurn

-- what the front was asked in a turn
abbrev pub acts_in : ServeTurn → List Act
acts_in Missed = Received None ∷ []
acts_in (Answered moment octets outgoing attempts) = Received (Some (moment, octets)) ∷ map Sent attempts

-- what a turn adds to each count
abbrev pub counts_in : ServeTurn → ServeTally
counts_in Missed = record {
  datagrams = 0;
  delivered = 0;
  feedback = 0;
  relayed = 0;
  refused = 0;
  failed = 1;
}
counts_in (Answered moment octets outgoing attempts) =
    counts_of outgoing (unsent None outgoing + failures attempts)

-- One turn. After a failed receive the concentrator is the same. A datagram is answered, and what is to be
-- sent is offered in its order.
abbrev pub ServesTurn : Lists → Concentrator → ServeTurn → Concentrator → Type 0
ServesTurn links old Missed new = new ≡ old
ServesTurn links old (Answered moment octets outgoing attempts) new =
    Answers links old moment octets outgoing new × (map offered attempts ≡ sends_in None outgoing)

-- the turns, one after the other
abbrev pub ServesTurns : Lists → Concentrator → List ServeTurn → Concentrator → Type 0
ServesTurns links old [] new = new ≡ old
ServesTurns links old (turn ∷ turns) new =
    (mid : Concentrator) × ServesTurn links old turn mid × ServesTurns links mid turns new

-- each count is the sum over the turns, up to the greatest u64
pub record IsServeTally (turns : List ServeTurn) (t : ServeTally) : Type 0 where
  pub datagrams : t.datagrams ≡ counted 0 (sum_by (λ turn. (counts_in turn).datagrams) turns)
  pub delivered : t.delivered ≡ counted 0 (sum_by (λ turn. (counts_in turn).delivered) turns)
  pub feedback : t.feedback ≡ counted 0 (sum_by (λ turn. (counts_in turn).feedback) turns)
  pub relayed : t.relayed ≡ counted 0 (sum_by (λ turn. (counts_in turn).relayed) turns)
  pub refused : t.refused ≡ counted 0 (sum_by (λ turn. (counts_in turn).refused) turns)
  pub failed : t.failed ≡ counted 0 (sum_by (λ turn. (counts_in turn).failed) turns)

-- a server from outside: the concentrator before and after, and the front's acts before and after
pub record Service : Type 0 where
  pub old : Concentrator
  pub new : Concentrator
  pub before : Option (List Act)
  pub after : Option (List Act)

abbrev pub service : (old new : Concentrator) (before after : Option (List Act)) → Service
service old new before after = record { old = old; new = new; before = before; after = after }

-- These turns lead from one concentrator to the other. If the front's acts are known, those of the turns
-- follow the ones before.
pub record Serves (links : Lists) (s : Service) (count : ℕ) (t : ServeTally) : Type 0 where
  pub turns : List ServeTurn
  pub taken : ServesTurns links s.old turns s.new
  pub acts : AddsActs s.before s.after (flat_map acts_in turns)
  pub so_many : length turns ≡ count
  pub tally : IsServeTally turns t

-- a tally with one more turn
abbrev pub with_turn : ServeTally → ServeTurn → ServeTally
with_turn t Missed = record t { failed = counted t.failed 1 }
with_turn t (Answered moment octets outgoing attempts) =
    added t (counts_of outgoing (unsent None outgoing + failures attempts))

-- one more turn
pub record TakesOne (links : Lists) (s : Service) (t next : ServeTally) : Type 0 where
  pub turn : ServeTurn
  pub taken : ServesTurn links s.old turn s.new
  pub acts : AddsActs s.before s.after (acts_in turn)
  pub tally : next ≡ with_turn t turn

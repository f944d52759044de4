-- Turns, one after the other.
use Rattle.std.proofs.Common.{◌≡◌, ℕ, ◌+◌, List, [], ◌∷◌, ◌++◌, refl, ◌∙◌, ap, subst, arith, length-append, append-nil}
use Rattle.std.specs.Prelude.{Option, Some, None}
use Rattle.std.specs.List.{flat_map, sum_by}
use Rattle.std.proofs.lemmas.List.Sums.{sum_by-append}
use Rattle.std.proofs.lemmas.Grind.{flat_map-append}
use Rattle.rohc_concentrator.specs.declared.concentrator.Concentrator.{Concentrator}
use Rattle.rohc_links.specs.Links.{Lists}
use Rattle.rohc_links.specs.Limits.{counted}
use Rattle.rohc_serve.specs.declared.tally.ServeTally.{ServeTally}
use Rattle.rohc_serve.specs.Acts.{Act, Received, AddsActs}
use Rattle.rohc_serve.specs.Outgoing.{Outgoing}
use Rattle.rohc_serve.specs.Datagram.{Answers}
use Rattle.rohc_serve.specs.Tally.{added, counts_of}
use Rattle.rohc_serve.specs.Sending.{sends_in, unsent, failures, OffersSends}
use Rattle.rohc_serve.specs.Turns.{ServeTurn, Missed, Answered, acts_in, counts_in, ServesTurn, ServesTurns, IsServeTally, service, Serves, with_turn, TakesOne}
use Rattle.rohc_serve.proofs.OfferLemmas.{adds_none, adds_more}

-- a tally with failed sends, counted before
added_failures : (t : ServeTally) (outgoing : Outgoing) (lost some failed : ℕ) → failed ≡ counted lost some →
    added t (counts_of outgoing failed) ≡ added t (counts_of outgoing (lost + some))
added_failures t outgoing lost some failed e =
    let same : counted t.failed failed ≡ counted t.failed (lost + some) = omega (arith, e) in
    ap (λ (n : ℕ). record (added t (counts_of outgoing 0)) { failed = n }) same

-- a datagram is received, answered, and what goes out is offered
pub one_turn : (links : Lists) (old new : Concentrator) (moment : ℕ) (octets : List ℕ) (outgoing : Outgoing)
    (before mid after : Option (List Act)) (t next : ServeTally) (failed : ℕ) →
    Answers links old moment octets outgoing new → AddsActs before mid (Received (Some (moment, octets)) ∷ []) →
    OffersSends (sends_in None outgoing) (unsent None outgoing) mid after failed → next ≡ added t (counts_of outgoing failed) →
    TakesOne links (service old new before after) t next
one_turn links old new moment octets outgoing before mid after t next failed answers got offers tally = record {
  turn = Answered moment octets outgoing offers.attempts;
  taken = (answers, offers.in_order);
  acts = adds_more before mid after _ _ got offers.acts;
  tally = tally ∙ added_failures t outgoing (unsent None outgoing) (failures offers.attempts) failed offers.failed_sends;
}

-- turns, and one behind them
turns_more : (links : Lists) (old mid new : Concentrator) (turns : List ServeTurn) (turn : ServeTurn) →
    ServesTurns links old turns mid → ServesTurn links mid turn new → ServesTurns links old (turns ++ turn ∷ []) new
turns_more links old mid new [] turn same one = (new, subst (λ (k : Concentrator). ServesTurn links k turn new) same one, refl)
turns_more links old mid new (first ∷ turns) turn all one = (all.0, all.1, turns_more links all.0 mid new turns turn all.2 one)

count_more : (f : ServeTurn → ℕ) (turns : List ServeTurn) (turn : ServeTurn) (n : ℕ) → n ≡ counted 0 (sum_by f turns) →
    counted n (f turn) ≡ counted 0 (sum_by f (turns ++ turn ∷ []))
count_more f turns turn n e = rw sum_by-append (omega (arith, e))

count_same : (f : ServeTurn → ℕ) (turns : List ServeTurn) (turn : ServeTurn) (n : ℕ) → f turn ≡ 0 → n ≡ counted 0 (sum_by f turns) →
    n ≡ counted 0 (sum_by f (turns ++ turn ∷ []))
count_same f turns turn n none e = rw sum_by-append (omega (arith, none, e))

tally_more : (turns : List ServeTurn) (turn : ServeTurn) (t : ServeTally) → IsServeTally turns t → IsServeTally (turns ++ turn ∷ []) (with_turn t turn)
tally_more turns Missed t h = record {
  datagrams = count_same _ turns Missed t.datagrams refl h.datagrams;
  delivered = count_same _ turns Missed t.delivered refl h.delivered;
  feedback = count_same _ turns Missed t.feedback refl h.feedback;
  relayed = count_same _ turns Missed t.relayed refl h.relayed;
  refused = count_same _ turns Missed t.refused refl h.refused;
  failed = count_more _ turns Missed t.failed h.failed;
}
tally_more turns (Answered moment octets outgoing attempts) t h =
    let turn : ServeTurn = Answered moment octets outgoing attempts in
    record {
      datagrams = count_more (λ one. (counts_in one).datagrams) turns turn t.datagrams h.datagrams;
      delivered = count_more (λ one. (counts_in one).delivered) turns turn t.delivered h.delivered;
      feedback = count_more (λ one. (counts_in one).feedback) turns turn t.feedback h.feedback;
      relayed = count_more (λ one. (counts_in one).relayed) turns turn t.relayed h.relayed;
      refused = count_more (λ one. (counts_in one).refused) turns turn t.refused h.refused;
      failed = count_more (λ one. (counts_in one).failed) turns turn t.failed h.failed;
    }

acts_more : (turns : List ServeTurn) (turn : ServeTurn) → flat_map acts_in (turns ++ turn ∷ []) ≡ flat_map acts_in turns ++ acts_in turn
acts_more turns turn = flat_map-append acts_in turns (turn ∷ []) ∙ ap (λ (l : List Act). flat_map acts_in turns ++ l) (append-nil (acts_in turn))

-- nothing was served
pub serves_none : (links : Lists) (k : Concentrator) (acts : Option (List Act)) (t : ServeTally) →
    t ≡ record { datagrams = 0; delivered = 0; feedback = 0; relayed = 0; refused = 0; failed = 0 } → Serves links (service k k acts acts) 0 t
serves_none links k acts t e = record {
  turns = [];
  taken = refl;
  acts = adds_none acts;
  so_many = refl;
  tally = rw e (record { datagrams = refl; delivered = refl; feedback = refl; relayed = refl; refused = refl; failed = refl });
}

-- one turn more was served
pub serves_more : (links : Lists) (old mid new : Concentrator) (before between after : Option (List Act)) (n : ℕ) (t next : ServeTally) →
    Serves links (service old mid before between) n t → TakesOne links (service mid new between after) t next → Serves links (service old new before after) (n + 1) next
serves_more links old mid new before between after n t next h one = record {
  turns = h.turns ++ one.turn ∷ [];
  taken = turns_more links old mid new h.turns one.turn h.taken one.taken;
  acts = rw acts_more (adds_more before between after _ _ h.acts one.acts);
  so_many = length-append h.turns (one.turn ∷ []) ∙ ap (λ (k : ℕ). k + 1) h.so_many;
  tally = rw one.tally (tally_more h.turns one.turn t h.tally);
}

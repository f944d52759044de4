-- What is offered one after the other.
use Rattle.std.proofs.Common.{◌≡◌, ℕ, ◌+◌, ◌<◌, ◌^◌, List, [], ◌∷◌, ◌++◌, Bool, true, false, not, cond, map, append_assoc, append-nil, refl, sym, ◌∙◌, ap, subst, arith}
use Rattle.std.specs.Prelude.{Option, Some, None}
use Rattle.std.specs.List.{flat_map, sum_by}
use Rattle.std.proofs.lemmas.List.{map-append}
use Rattle.std.proofs.lemmas.Grind.{flat_map-append}
use Rattle.std.proofs.lemmas.List.Sums.{sum_by-append}
use Rattle.rohc_links.specs.Limits.{counted}
use Rattle.rohc_serve.specs.Acts.{Attempt, Act, Sent, AddsActs}
use Rattle.rohc_links.specs.declared.ports.Ports.{Ports}
use Rattle.rohc_serve.specs.Outgoing.{Outgoing}
use Rattle.rohc_serve.specs.Sending.{Send, send, packet_sends, too_long, element_sends, unsent_element, feedback_sends, unsent_feedback, sends_in, unsent, OffersSends, offered, failures}
use Rattle.rohc_serve.specs.Tally.{one_if}

-- nothing was asked
pub adds_none : (acts : Option (List Act)) → AddsActs acts acts []
adds_none None = tt
adds_none (Some acts) = sym (append-nil acts)

-- some was asked, and then more
pub adds_more : (before mid after : Option (List Act)) (a b : List Act) → AddsActs before mid a → AddsActs mid after b →
    AddsActs before after (a ++ b)
adds_more None None None a b ha hb = tt
adds_more None None (Some z) a b ha hb = hb
adds_more None (Some y) after a b ha hb = absurd ha
adds_more (Some x) (Some y) (Some z) a b ha hb = hb ∙ ap (λ (l : List Act). l ++ b) ha ∙ append_assoc x a b
adds_more (Some x) None (Some z) a b ha hb = absurd hb
adds_more (Some x) mid None a b ha hb = tt

-- the failures of attempts, and of others
pub failures_append : (a b : List Attempt) → failures (a ++ b) ≡ failures a + failures b
failures_append a b = sum_by-append (λ (x : Attempt). cond (not x.gone) 1 0) a b

-- nothing is offered
pub offers_none : (lost : ℕ) (acts : Option (List Act)) → lost < 2 ^ 64 → OffersSends [] lost acts acts lost
offers_none lost acts small = record {
  attempts = [];
  in_order = refl;
  acts = adds_none acts;
  failed_sends = omega arith;
}

-- one datagram is offered
pub offers_one : (port : ℕ) (octets : List ℕ) (gone : Bool) (before after : Option (List Act)) (x : ℕ) →
    AddsActs before after (Sent (record { port = port; octets = octets; gone = gone }) ∷ []) →
    x ≡ counted 0 (one_if (not gone)) → OffersSends (send port octets ∷ []) 0 before after x
offers_one port octets true before after x told total = record {
  attempts = record { port = port; octets = octets; gone = true } ∷ [];
  in_order = refl;
  acts = told;
  failed_sends = total;
}
offers_one port octets false before after x told total = record {
  attempts = record { port = port; octets = octets; gone = false } ∷ [];
  in_order = refl;
  acts = told;
  failed_sends = total;
}

-- sends are offered, and then others
pub offers_more : (a b : List Send) (m n : ℕ) (before mid after : Option (List Act)) (x y z : ℕ) →
    OffersSends a m before mid x → OffersSends b n mid after y → z ≡ counted x y → OffersSends (a ++ b) (m + n) before after z
offers_more a b m n before mid after x y z ha hb total = record {
  attempts = ha.attempts ++ hb.attempts;
  in_order = map-append offered ha.attempts hb.attempts ∙ ap (λ (l : List Send). l ++ map offered hb.attempts) ha.in_order ∙ ap (λ (l : List Send). a ++ l) hb.in_order;
  acts = rw map-append (adds_more before mid after _ _ ha.acts hb.acts);
  failed_sends = omega (arith, total, ha.failed_sends, hb.failed_sends, failures_append ha.attempts hb.attempts);
}

-- the sends of elements, and of one behind them
sends_more : (number : Option ℕ) (port : ℕ) (done : List (List ℕ)) (octets : List ℕ) →
    flat_map (element_sends number port) (done ++ octets ∷ []) ≡ flat_map (element_sends number port) done ++ element_sends number port octets
sends_more number port done octets =
    flat_map-append (element_sends number port) done (octets ∷ [])
    ∙ ap (λ (l : List Send). flat_map (element_sends number port) done ++ l) (append-nil (element_sends number port octets))

unsent_more : (number : Option ℕ) (done : List (List ℕ)) (octets : List ℕ) →
    sum_by (unsent_element number) (done ++ octets ∷ []) ≡ sum_by (unsent_element number) done + unsent_element number octets
unsent_more number done octets = omega (arith, sum_by-append (unsent_element number) done (octets ∷ []))

-- Relayed data is offered for a port, and this is what is left.
pub record OffersFront (number : Option ℕ) (port : ℕ) (all left : List (List ℕ)) (before after : Option (List Act)) (failed : ℕ) : Type 0 where
  pub done : List (List ℕ)
  pub whole : done ++ left ≡ all
  pub offers : OffersSends (flat_map (element_sends number port) done) (sum_by (unsent_element number) done) before after failed

-- nothing is offered yet
pub front_none : (number : Option ℕ) (port : ℕ) (all : List (List ℕ)) (acts : Option (List Act)) → OffersFront number port all all acts acts 0
front_none number port all acts = record { done = []; whole = refl; offers = offers_none 0 acts (omega arith) }

-- the next data is offered
pub front_more : (number : Option ℕ) (port : ℕ) (all left rest : List (List ℕ)) (octets : List ℕ) (before mid after : Option (List Act)) (x y z : ℕ) →
    OffersFront number port all left before mid x → left ≡ octets ∷ rest →
    OffersSends (element_sends number port octets) (unsent_element number octets) mid after y → z ≡ counted x y →
    OffersFront number port all rest before after z
front_more number port all left rest octets before mid after x y z h cut offers total = record {
  done = h.done ++ octets ∷ [];
  whole = append_assoc h.done (octets ∷ []) rest ∙ ap (λ (l : List (List ℕ)). h.done ++ l) (sym cut) ∙ h.whole;
  offers = rw (sends_more number port h.done octets, unsent_more number h.done octets)
      (offers_more _ _ (sum_by (unsent_element number) h.done) (unsent_element number octets) before mid after x y z h.offers offers total);
}

-- all is offered
pub front_all : (number : Option ℕ) (port : ℕ) (all left : List (List ℕ)) (before after : Option (List Act)) (x : ℕ) →
    OffersFront number port all left before after x → left ≡ [] →
    OffersSends (flat_map (element_sends number port) all) (sum_by (unsent_element number) all) before after x
front_all number port all left before after x h none =
    subst (λ (l : List (List ℕ)). OffersSends (flat_map (element_sends number port) l) (sum_by (unsent_element number) l) before after x)
    (sym (append-nil h.done) ∙ ap (λ (l : List (List ℕ)). h.done ++ l) (sym none) ∙ h.whole) h.offers

-- the three kinds of sends for a datagram, one behind the other
pub offers_all : (number : Option ℕ) (outgoing : Outgoing) (ports : Ports) (first second third fourth : Option (List Act)) (x y z w v : ℕ) →
    outgoing.ports ≡ Some ports →
    OffersSends (flat_map (element_sends number ports.relay) outgoing.relayed) (sum_by (unsent_element number) outgoing.relayed) first second x →
    OffersSends (packet_sends ports.deliver outgoing.packet) (too_long outgoing.packet) second third y →
    OffersSends (feedback_sends number ports.feedback outgoing.feedback) (unsent_feedback number outgoing.feedback) third fourth z →
    w ≡ counted x y → v ≡ counted w z → OffersSends (sends_in number outgoing) (unsent number outgoing) first fourth v
offers_all number outgoing ports first second third fourth x y z w v known a b c one all =
    let two = offers_more _ _ (sum_by (unsent_element number) outgoing.relayed) (too_long outgoing.packet) first second third x y w a b one in
    rw known (offers_more _ _ _ (unsent_feedback number outgoing.feedback) first third fourth w z v two c all)

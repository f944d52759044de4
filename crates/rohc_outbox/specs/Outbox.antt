-- Datagrams that wait to be sent. Words: Datagram; datagram; datagrams; octets_of; lengths_of; count_to;
-- IsOutbox.
use Rattle.std.specs.Prelude.{◌≡◌, ℕ, ◌<◌, ◌≤◌, ◌==◌, List, [], ◌∷◌, length, take, drop, slice_index}
use Rattle.std.specs.Prelude.{sum_by, count_by}
use Rattle.circular_buffer.specs.Buffer.{Buffer}
use Rattle.rohc_outbox.specs.declared.outbox.TheConstants.{MOST, PORTS, ROOM}
use Rattle.rohc_outbox.specs.declared.outbox.Waiting.{Waiting}

-- the port that it is sent from, the port that it goes to, and its octets
pub record Datagram : Type 0 where
  pub from : ℕ
  pub to : ℕ
  pub octets : List ℕ

abbrev pub datagram : ℕ → ℕ → List ℕ → Datagram
datagram from to octets = record { from = from; to = to; octets = octets }

-- the datagrams with these heads; the octets of all of them follow each other in one list
abbrev pub datagrams : List Waiting → List ℕ → List Datagram
datagrams [] octets = []
datagrams (head ∷ heads) octets =
    datagram head.from head.to (take head.length octets) ∷ datagrams heads (drop head.length octets)

-- how many octets the datagrams have together
abbrev pub octets_of : List Datagram → ℕ
octets_of waiting = sum_by (λ each. length each.octets) waiting

-- the same, by their heads
abbrev pub lengths_of : List Waiting → ℕ
lengths_of heads = sum_by (λ head. head.length) heads

-- how many of the datagrams with these heads go to the port
abbrev pub count_to : ℕ → List Waiting → ℕ
count_to port heads = count_by (λ head. head.to == port) heads

-- what holds of the fields of an outbox
pub record IsOutbox (heads : Buffer Waiting) (octets : Buffer ℕ) (counts : List ℕ) : Type 0 where
  pub most : heads.capacity ≡ MOST
  pub room : octets.capacity ≡ ROOM
  pub few : length heads.items ≤ MOST
  pub fits : length octets.items ≤ ROOM
  pub lengths : length octets.items ≡ lengths_of heads.items
  pub ports : length counts ≡ PORTS
  pub counted : (port : ℕ) → port < PORTS → slice_index counts port ≡ count_to port heads.items

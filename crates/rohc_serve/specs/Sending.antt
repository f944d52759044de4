-- The sends for one datagram. Words: Send, send; behind, packet_octets; packet_sends, too_long; numbered,
-- element_sends, unsent_element; feedback_sends, unsent_feedback; sends_in, unsent; offered, failures;
-- OffersSends.
use Rattle.std.specs.Prelude.{◌≡◌, ℕ, ◌+◌, List, [], ◌∷◌, ◌++◌, length, map, not, nat_le, count_by, sum_by, Option, Some, None, if◌then◌else◌}
use Rattle.std.specs.List.{flat_map}
use Rattle.std.specs.Int.{w16, to_be_bytes}
use Rattle.rohc_context.specs.Response.{Packet}
use Rattle.rohc_links.specs.declared.ports.Ports.{Ports}
use Rattle.rohc_links.specs.Limits.{longest_packet, counted}
use Rattle.rohc_serve.specs.Acts.{Attempt, Act, Sent, AddsActs}
use Rattle.rohc_serve.specs.Outgoing.{Outgoing}

-- octets for a port
pub record Send : Type 0 where
  pub port : ℕ
  pub octets : List ℕ

abbrev pub send : ℕ → List ℕ → Send
send port octets = record { port = port; octets = octets }

-- a payload behind a head
abbrev pub behind : List ℕ → List ℕ → Packet
behind head payload = record { head = head; payload = payload }

-- the octets of a packet: its head, followed by its payload
abbrev pub packet_octets : Packet → List ℕ
packet_octets p = p.head ++ p.payload

-- a packet is sent if it has at most 65,535 octets
abbrev pub packet_sends : ℕ → Option Packet → List Send
packet_sends port None = []
packet_sends port (Some p) =
    if nat_le (length (packet_octets p)) longest_packet then send port (packet_octets p) ∷ [] else []

-- a longer packet isn't offered, and counts as a failed send
abbrev pub too_long : Option Packet → ℕ
too_long None = 0
too_long (Some p) = if nat_le (length (packet_octets p)) longest_packet then 0 else 1

-- an element behind the number of its link, most significant octet first
abbrev pub numbered : ℕ → List ℕ → Packet
numbered link element = behind (to_be_bytes w16 link) element

-- an element is sent as it is, or, if a number is given, behind it as a packet is
abbrev pub element_sends : (number : Option ℕ) → ℕ → List ℕ → List Send
element_sends None port element = send port element ∷ []
element_sends (Some link) port element = packet_sends port (Some (numbered link element))

abbrev pub unsent_element : (number : Option ℕ) → List ℕ → ℕ
unsent_element None element = 0
unsent_element (Some link) element = too_long (Some (numbered link element))

abbrev pub feedback_sends : (number : Option ℕ) → ℕ → Option (List ℕ) → List Send
feedback_sends number port None = []
feedback_sends number port (Some element) = element_sends number port element

abbrev pub unsent_feedback : (number : Option ℕ) → Option (List ℕ) → ℕ
unsent_feedback number None = 0
unsent_feedback number (Some element) = unsent_element number element

-- the data of each relayed element to the relay port, then the packet to the deliver port, then the feedback
-- element to the feedback port; nothing if there are no ports
abbrev pub sends_by : (number : Option ℕ) → Option Ports → Outgoing → List Send
sends_by number None outgoing = []
sends_by number (Some ports) outgoing =
    flat_map (element_sends number ports.relay) outgoing.relayed ++ packet_sends ports.deliver outgoing.packet
    ++ feedback_sends number ports.feedback outgoing.feedback

abbrev pub sends_in : (number : Option ℕ) → Outgoing → List Send
sends_in number outgoing = sends_by number outgoing.ports outgoing

-- how many of them aren't offered
abbrev pub unsent_by : (number : Option ℕ) → Option Ports → Outgoing → ℕ
unsent_by number None outgoing = 0
unsent_by number (Some ports) outgoing = sum_by (unsent_element number) outgoing.relayed
    + too_long outgoing.packet + unsent_feedback number outgoing.feedback

abbrev pub unsent : (number : Option ℕ) → Outgoing → ℕ
unsent number outgoing = unsent_by number outgoing.ports outgoing

-- the octets and the port that were offered
abbrev pub offered : Attempt → Send
offered a = send a.port a.octets

-- how many attempts failed
abbrev pub failures : List Attempt → ℕ
failures attempts = count_by (λ (a : Attempt). not a.gone) attempts

-- these are offered in this order; `failed` counts those that failed, and those that were lost before they
-- were offered
pub record OffersSends (sends : List Send) (lost : ℕ) (before after : Option (List Act)) (failed : ℕ) : Type 0
  where
    pub attempts : List Attempt
    pub in_order : map offered attempts ≡ sends
    pub acts : AddsActs before after (map Sent attempts)
    pub failed_sends : failed ≡ counted lost (failures attempts)

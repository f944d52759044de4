-- What is to be sent for a datagram. Words: Outgoing, outgoing_of; refused_for, sends_of a report.
use Rattle.std.specs.Prelude.{ℕ, List, [], Bool, true, false, Option, None}
use Rattle.rohc_frame.specs.Reading.{elements_of}
use Rattle.rohc_feedback.specs.Element.{octets_of}
use Rattle.rohc_context.specs.Response.{Packet, packet_in}
use Rattle.rohc_concentrator.specs.Report.{Report, Arrived, OnlyFront, Refused, is_refused}
use Rattle.rohc_links.specs.declared.ports.Ports.{Ports}
use Rattle.rohc_serve.specs.declared.sends.Sends.{Sends}

-- What is to be sent, apart from where its octets lie in memory.
pub record Outgoing : Type 0 where
  pub ports : Option Ports
  pub relayed : List (List ℕ)
  pub packet : Option Packet
  pub feedback : Option (List ℕ)
  pub refused : Bool

-- the sends of the code as plain data
abbrev pub outgoing_of : Sends → Outgoing
outgoing_of s = record {
  ports = s.ports;
  relayed = elements_of s.relayed;
  packet = packet_in s.packet;
  feedback = octets_of s.feedback;
  refused = s.refused;
}

-- nothing is to be sent, since the datagram was refused
abbrev pub refused_for : Option Ports → Outgoing
refused_for ports = record { ports = ports; relayed = []; packet = None; feedback = None; refused = true }

-- what is to be sent for a report, to the ports of its link: exactly its relayed data, its packet and its
-- feedback
abbrev pub sends_of : Option Ports → Report → Outgoing
sends_of ports (Arrived cid response relayed) = record {
  ports = ports;
  relayed = relayed;
  packet = response.packet;
  feedback = response.feedback;
  refused = is_refused (Arrived cid response relayed);
}
sends_of ports (OnlyFront relayed) = record (refused_for ports) { relayed = relayed; refused = false }
sends_of ports (Refused refusal) = refused_for ports

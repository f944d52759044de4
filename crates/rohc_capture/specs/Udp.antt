-- A UDP datagram over IPv4 (RFC 791, RFC 768). Words: segment_in; Form, form_of; datagram_in.
use Rattle.std.specs.Prelude.{ℕ, ◌*◌, ◌/◌, ◌%◌, List, nat_le, ◌==◌, ◌&&◌, Result, Ok}
use Rattle.rohc_capture.specs.declared.fault.FrameFault.{FrameFault}
use Rattle.rohc_capture.specs.declared.fault.FrameFault.TheVariants.{IpHeader, IpLength, Fragment, NotUdp, UdpLength}
use Rattle.rohc_capture.specs.declared.udp.Datagram.{Datagram}
use Rattle.rohc_capture.specs.Octets.{◌>>=◌, given, octet_at, word_at, after, cut}

-- what follows the IP header, up to the packet's total length
unfoldable pub segment_in : List ℕ → Result (List ℕ) FrameFault
segment_in packet = do
  (first, rest) ← octet_at packet
  rest ← given ((first / 16 == 4) && nat_le 5 (first % 16)) IpHeader rest
  (_, rest) ← octet_at rest
  (total, rest) ← word_at rest
  (_, rest) ← word_at rest
  (fragment, rest) ← word_at rest
  (_, rest) ← octet_at rest
  (protocol, _) ← octet_at rest
  segment ← cut (first % 16 * 4) total IpLength packet
  segment ← given (fragment % 16384 == 0) Fragment segment
  given (protocol == 17) NotUdp segment

-- a datagram: its ports and its payload
pub record Form : Type 0 where
  pub source : ℕ
  pub destination : ℕ
  pub payload : List ℕ

abbrev pub form_of : Datagram → Form
form_of d = record { source = d.source; destination = d.destination; payload = d.payload.now }

unfoldable pub form_in : List ℕ → Result Form FrameFault
form_in udp = do
  (source, rest) ← word_at udp
  (destination, rest) ← word_at rest
  (size, rest) ← word_at rest
  rest ← after 2 rest
  payload ← cut 8 size UdpLength udp
  Ok (record { source = source; destination = destination; payload = payload })

-- the datagram in an IPv4 packet
unfoldable pub datagram_in : List ℕ → Result Form FrameFault
datagram_in packet = segment_in packet >>= form_in

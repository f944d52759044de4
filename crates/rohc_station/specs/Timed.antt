-- Timed datagrams. Words: TimedPacket, plain_timed; four_at; timed_in a datagram.
use Rattle.std.specs.Prelude.{ℕ, ◌+◌, ◌*◌, List, length, drop, nat_lt, if◌then◌else◌, Option, Some, None, slice_index}
use Rattle.rohc_station.specs.declared.timed.Timed.{Timed}

-- a packet with its link and its moment, apart from where its octets lie in memory
pub record TimedPacket : Type 0 where
  pub link : ℕ
  pub moment : ℕ
  pub packet : List ℕ

abbrev pub plain_timed : Timed → TimedPacket
plain_timed t = record { link = t.link; moment = t.moment; packet = t.packet.now }

-- the number in four octets from this place on, most significant octet first
abbrev pub four_at : List ℕ → ℕ → ℕ
four_at octets place = slice_index octets place * 16777216 + slice_index octets (place + 1) * 65536
    + slice_index octets (place + 2) * 256 + slice_index octets (place + 3)

-- the link's number in two octets, the moment in eight, then the packet
abbrev pub timed_in : List ℕ → Option TimedPacket
timed_in octets =
    if nat_lt (length octets) 10 then None
    else Some (record {
      link = slice_index octets 0 * 256 + slice_index octets 1;
      moment = four_at octets 2 * 4294967296 + four_at octets 6;
      packet = drop 10 octets;
    })

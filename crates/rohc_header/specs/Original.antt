-- The original header that fields mean, octet by octet: IPv4, UDP and RTP.
use Rattle.std.specs.Prelude.{◌≡◌, ◌≤◌, ℕ, ◌+◌, ◌/◌, ◌%◌, Bool, if◌then◌else◌, List, [], ◌∷◌, ◌++◌, length}
use Rattle.rohc_checks.specs.Sum.{header_sum, words}
use Rattle.rohc_header.specs.declared.fields.Static.{Static}
use Rattle.rohc_header.specs.declared.fields.Dynamic.{Dynamic}

-- ---- Fields as they stand in a header, most significant octet first

-- of 8, of 16 and of 32 bits
abbrev pub octet : ℕ → List ℕ
octet n = n ∷ []

abbrev pub word : ℕ → List ℕ
word n = octet (n / 256) ++ octet (n % 256)

abbrev pub quad : ℕ → List ℕ
quad n = word (n / 65536) ++ word (n % 65536)

-- a flag as the bit of this value
abbrev pub flag : Bool → ℕ → ℕ
flag set value = if set then value else 0

-- ---- The IPv4 part (RFC 791 3.1)

-- before its checksum
abbrev pub ip_front : (moving : Dynamic) (payload_len : ℕ) → List ℕ
ip_front moving payload_len =
    octet 0x45  -- version 4, and a length of five words
    ++ octet moving.tos
    ++ word (40 + payload_len)  -- Total Length
    ++ word moving.id  -- Identification
    ++ octet (flag moving.df 0x40)  -- Don't Fragment, and a fragment offset of 0
    ++ octet 0
    ++ octet moving.ttl
    ++ octet 17  -- the protocol: UDP

-- after its checksum
abbrev pub addresses : Static → List ℕ
addresses fixed = fixed.source ++ fixed.destination

-- with this checksum
abbrev pub ip_part : (fixed : Static) (moving : Dynamic) (payload_len checksum : ℕ) → List ℕ
ip_part fixed moving payload_len checksum = ip_front moving payload_len ++ word checksum ++ addresses fixed

-- the header sum of the nine other words
abbrev pub ip_sum : (fixed : Static) (moving : Dynamic) (payload_len : ℕ) → ℕ
ip_sum fixed moving payload_len = header_sum (words (ip_front moving payload_len ++ addresses fixed))

-- ---- The UDP part (RFC 768)

abbrev pub udp_part : (fixed : Static) (moving : Dynamic) (payload_len : ℕ) → List ℕ
udp_part fixed moving payload_len =
    word fixed.source_port
    ++ word fixed.destination_port
    ++ word (20 + payload_len)  -- Length
    ++ word moving.udp_sum

-- ---- The RTP part (RFC 3550 5.1)

abbrev pub rtp_part : (fixed : Static) (moving : Dynamic) → List ℕ
rtp_part fixed moving =
    octet (0x80 + flag moving.padding 0x20 + flag moving.extension 0x10)  -- version 2, P, X, no CSRC
    ++ octet (flag moving.marker 0x80 + moving.payload_type)
    ++ word moving.sn
    ++ quad moving.ts
    ++ quad fixed.ssrc

-- The header, in words of 32 bits:
--
--  0                   1                   2                   3
--  0 1 2 3 4 5 6 7 8 9 0 1 2 3 4 5 6 7 8 9 0 1 2 3 4 5 6 7 8 9 0 1
-- +---------------+---------------+-------------------------------+
-- | 4       5     |      TOS      |         Total Length          |  IPv4
-- +---------------+---------------+-----+-------------------------+
-- |        Identification         |0|D|0|            0            |
-- +---------------+---------------+-----+-------------------------+
-- |      TTL      |      17       |           checksum            |
-- +---------------+---------------+-------------------------------+
-- |                        source address                         |
-- +---------------------------------------------------------------+
-- |                      destination address                      |
-- +-------------------------------+-------------------------------+
-- |          source port          |       destination port        |  UDP
-- +-------------------------------+-------------------------------+
-- |            Length             |           checksum            |
-- +---+-+-+-------+-+-------------+-------------------------------+
-- | 2 |P|X|   0   |M|     PT      |        sequence number        |  RTP
-- +---+-+-+-------+-+-------------+-------------------------------+
-- |                           timestamp                           |
-- +---------------------------------------------------------------+
-- |                             SSRC                              |
-- +---------------------------------------------------------------+

-- the longest payload, in octets: a packet has at most 65,535
abbrev pub longest_payload : ℕ
longest_payload = 65495

-- Forty octets are the original header of these fields and of a payload of this length, if the payload is no
-- longer than `longest_payload` and the octets are the three parts one after the other. The checksum of the
-- IPv4 part is the header sum of its other nine words.
pub record IsOriginal (fixed : Static) (moving : Dynamic) (payload_len : ℕ) (octets : List ℕ) : Type 0 where
  pub checksum : ℕ
  pub fits : payload_len ≤ longest_payload
  pub forty : length octets ≡ 40
  pub summed : checksum ≡ ip_sum fixed moving payload_len
  pub whole : octets ≡ ip_part fixed moving payload_len checksum ++ udp_part fixed moving payload_len ++
      rtp_part fixed moving

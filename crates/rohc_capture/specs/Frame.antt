-- A frame of a capture, down to the network layer. Words: protocol_of, ppp_protocol; is_tag; Inside,
-- inside_of; untagged; ethernet, cooked, second_cooked, ppp, network_in.
use Rattle.std.specs.Prelude.{ℕ, zero, suc, ◌+◌, ◌*◌, ◌%◌, List, length, take, nat_le, ◌==◌, ◌&&◌, ◌||◌, Bool, Option, Some, None, Result, Ok, Err, if◌then◌else◌}
use Rattle.rohc_capture.specs.declared.fault.FrameFault.{FrameFault}
use Rattle.rohc_capture.specs.declared.fault.FrameFault.TheVariants as faults
use Rattle.rohc_capture.specs.declared.frame.Protocol.{Protocol}
use Rattle.rohc_capture.specs.declared.frame.Protocol.TheVariants.{Rohc, Ipv4, EtherType, Other}
use Rattle.rohc_capture.specs.declared.frame.Network.{Network}
use Rattle.rohc_capture.specs.Octets.{◌>>=◌, given, octet_at, word_at, after}

-- by its EtherType: 22F1 is ROHC, 0800 is IPv4, and any other is itself
abbrev pub protocol_of : ℕ → Protocol
protocol_of kind = if kind == 0x22f1 then Rohc else if kind == 0x0800 then Ipv4 else EtherType kind

-- by its number in PPP: 0003 is ROHC with small CIDs, 0005 with large ones (RFC 3241 2.2), 0021 is IPv4
abbrev pub ppp_protocol : ℕ → Protocol
ppp_protocol kind =
    if (kind == 0x0003) || (kind == 0x0005) then Rohc else if kind == 0x0021 then Ipv4 else Other

-- a VLAN tag follows (IEEE 802.1Q)
abbrev pub is_tag : ℕ → Bool
is_tag kind = (kind == 0x8100) || (kind == 0x88a8)

-- what the headers of the link enclose: the number of the last VLAN tag, the protocol, and the octets behind
pub record Inside : Type 0 where
  pub vlan : Option ℕ
  pub protocol : Protocol
  pub octets : List ℕ

abbrev pub inside : Option ℕ → Protocol → List ℕ → Inside
inside vlan protocol octets = record { vlan = vlan; protocol = protocol; octets = octets }

abbrev pub inside_of : Network → Inside
inside_of n = inside n.vlan n.protocol n.octets.now

-- A frame with a length where others have their EtherType (IEEE 802.3): after the octets AA AA 03 00 00 00
-- the EtherType follows. The length says where padding begins.
unfoldable pub measured : Option ℕ → ℕ → List ℕ → Result Inside FrameFault
measured vlan count text = do
  text ← given (nat_le count (length text)) faults.Short (take count text)
  (service, text) ← word_at text
  (control, text) ← word_at text
  (organisation, text) ← word_at text
  (kind, text) ← word_at text
  Ok (inside vlan
      (if (service == 0xaaaa) && (control == 0x0300) && (organisation == 0) then protocol_of kind else Other)
      text)

-- what follows an EtherType or a length
unfoldable pub typed : Option ℕ → ℕ → List ℕ → Result Inside FrameFault
typed vlan kind text =
    if nat_le kind 1500 then measured vlan kind text else Ok (inside vlan (protocol_of kind) text)

-- an EtherType and what follows it, behind VLAN tags: with it at most n EtherTypes
unfoldable pub untagged : ℕ → Option ℕ → List ℕ → Result Inside FrameFault
untagged zero vlan text = Err faults.Tags
untagged (suc n) vlan text = word_at text >>= λ (kind, rest).
    if is_tag kind then (word_at rest >>= λ (tag, rest). untagged n (Some (tag % 4096)) rest)
    else typed vlan kind rest

-- Ethernet: two addresses
unfoldable pub ethernet : List ℕ → Result Inside FrameFault
ethernet frame = after 12 frame >>= untagged 9 None

-- after the EtherType of a Linux cooked capture
unfoldable pub cooked_type : ℕ → List ℕ → Result Inside FrameFault
cooked_type kind text =
    if is_tag kind then (word_at text >>= λ (tag, rest). untagged 8 (Some (tag % 4096)) rest)
    else Ok (inside None (protocol_of kind) text)

-- Linux cooked capture: 14 octets and the EtherType
unfoldable pub cooked : List ℕ → Result Inside FrameFault
cooked frame = do
  text ← after 14 frame
  (kind, text) ← word_at text
  cooked_type kind text

-- its second version: the EtherType and 18 octets
unfoldable pub second_cooked : List ℕ → Result Inside FrameFault
second_cooked frame = do
  (kind, text) ← word_at frame
  text ← after 18 text
  cooked_type kind text

-- PPP: a protocol number has one octet if it is odd (RFC 1661 2), and else two
unfoldable pub second_number : ℕ → List ℕ → Result Inside FrameFault
second_number first text = do
  (second, rest) ← octet_at text
  Ok (inside None (ppp_protocol (first * 256 + second)) rest)

unfoldable pub numbered : List ℕ → Result Inside FrameFault
numbered text = octet_at text >>= λ (first, rest).
    if first % 2 == 1 then Ok (inside None (ppp_protocol first) rest) else second_number first rest

-- FF 03 may stand in front (RFC 1662 3.1)
unfoldable pub ppp : List ℕ → Result Inside FrameFault
ppp frame = do
  (first, rest) ← octet_at frame
  (second, rest) ← octet_at rest
  numbered (if (first == 0xff) && (second == 0x03) then rest else frame)

-- the link types that are known: Ethernet 1; PPP 9 and 50; raw IP 12, 14, 101, 228; Linux cooked 113 and 276
unfoldable pub network_in : ℕ → List ℕ → Result Inside FrameFault
network_in link frame =
    if link == 1 then ethernet frame
    else if (link == 9) || (link == 50) then ppp frame
    else if (link == 12) || (link == 14) || (link == 101) || (link == 228) then Ok (inside None Ipv4 frame)
    else if link == 113 then cooked frame
    else if link == 276 then second_cooked frame
    else Err faults.LinkType

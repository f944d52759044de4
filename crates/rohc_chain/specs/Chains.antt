-- The chains of an IR or IR-DYN piece by piece (RFC 3095 5.7.7.4 to 5.7.7.6).
use Rattle.std.specs.Prelude.{ℕ, ◌%◌, List, [], ◌∷◌, Bool, Option, Some, Result}
use Rattle.rohc_bits.specs.Reading.{bit}
use Rattle.rohc_bits.specs.Grammar.{Octet, Word, Says, Which, As, Judged, Called, Row}
use Rattle.rohc_bits.specs.InTurn.{◌>>=◌}
use Rattle.rohc_header.specs.declared.fields.Static.{Static}
use Rattle.rohc_header.specs.declared.fields.Dynamic.{Dynamic}
use Rattle.rohc_chain.specs.declared.parts.IpDynamic.{IpDynamic}
use Rattle.rohc_chain.specs.declared.parts.RtpDynamic.{RtpDynamic}
use Rattle.rohc_chain.specs.declared.parts.Kept.{Kept}
use Rattle.rohc_chain.specs.declared.refusal.ChainRefusal.{ChainRefusal}
use Rattle.rohc_chain.specs.Octets.{Name, Reserved, Version, Protocol, Source, Destination, SourcePort, DestinationPort, Ssrc, Tos, Ttl, Id, Df, Rnd, Nbo, ExtensionHeaders, UdpSum, V, P, Rx, Cc, M, Pt, Sn, Ts, CsrcList, X, Mode, Tis, Tss, TsStride, TimeStride, ChainPiece, read, four_octets_at, quad_at, value_at}
use Rattle.rohc_chain.specs.Faults.{version_fault, protocol_fault, extension_list_fault, csrc_list_fault, rtp_fault, mode_fault, stride_fault}

-- an octet, unless it is refused
abbrev pub judged_octet : (ℕ → Option ChainRefusal) → List ℕ → Result (ℕ × List ℕ) ChainRefusal
judged_octet fault = read (Judged fault Octet)

-- the octets with several fields; a law says that what is said of them stands at these places
--
--   |  Version = 4  |       0       |
--   | DF|RND|NBO|         0         |
--   |  V=2  | P | RX|    CC = 0     |
--   | M |            PT             |
--   | Reserved  | X | Mode  |TIS|TSS|
abbrev pub version_row : List (Name × ℕ)
version_row = (Version, 4) ∷ (Reserved, 4) ∷ []

abbrev pub ip_row : List (Name × ℕ)
ip_row = (Df, 1) ∷ (Rnd, 1) ∷ (Nbo, 1) ∷ (Reserved, 5) ∷ []

abbrev pub rtp_row : List (Name × ℕ)
rtp_row = (V, 2) ∷ (P, 1) ∷ (Rx, 1) ∷ (Cc, 4) ∷ []

abbrev pub type_row : List (Name × ℕ)
type_row = (M, 1) ∷ (Pt, 7) ∷ []

abbrev pub given_row : List (Name × ℕ)
given_row = (Reserved, 3) ∷ (X, 1) ∷ (Mode, 2) ∷ (Tis, 1) ∷ (Tss, 1) ∷ []

-- what the octets of a chain say
abbrev pub static_of : List ℕ × List ℕ → ℕ → ℕ → ℕ → Static
static_of (source, destination) source_port destination_port ssrc = record {
  source = source;
  destination = destination;
  source_port = source_port;
  destination_port = destination_port;
  ssrc = ssrc;
}

abbrev pub ip_dynamic_of : ℕ → ℕ → ℕ → ℕ → IpDynamic
ip_dynamic_of tos ttl id flags =
    record { tos = tos; ttl = ttl; id = id; df = bit 7 flags; rnd = bit 6 flags; nbo = bit 5 flags }

abbrev pub rtp_dynamic_of : ℕ → ℕ → ℕ → ℕ → Kept → RtpDynamic
rtp_dynamic_of first second sn ts given = record {
  padding = bit 5 first;
  extension = given.extension;
  marker = bit 7 second;
  payload_type = second % 128;
  sn = sn;
  ts = ts;
  stride = given.stride;
}

-- the static chain of IPv4: version, protocol, the addresses
unfoldable pub ip_static_at : ChainPiece (List ℕ × List ℕ)
ip_static_at = do
  version ← Judged version_fault (Row (λ _. version_row) Octet)
  protocol ← Judged protocol_fault (Called Protocol Octet)
  source ← Called Source four_octets_at
  destination ← Called Destination four_octets_at
  Says (source, destination)

-- the static chains of IPv4, UDP and RTP
unfoldable pub static_at : ChainPiece Static
static_at = do
  addresses ← ip_static_at
  source_port ← Called SourcePort Word
  destination_port ← Called DestinationPort Word
  ssrc ← Called Ssrc quad_at
  Says (static_of addresses source_port destination_port ssrc)

-- the dynamic chain of IPv4
unfoldable pub ip_dynamic_at : ChainPiece IpDynamic
ip_dynamic_at = do
  tos ← Called Tos Octet
  ttl ← Called Ttl Octet
  id ← Called Id Word
  flags ← Row (λ _. ip_row) Octet
  extensions ← Judged extension_list_fault (Called ExtensionHeaders Octet)
  Says (ip_dynamic_of tos ttl id flags)

-- TS_STRIDE, if the flags announce it, else the stride that is kept
unfoldable pub stride_at : Option ℕ → ℕ → ChainPiece (Option ℕ)
stride_at kept flags =
    Which (bit 0 flags) (As Some (Judged stride_fault (Called TsStride value_at))) (Says kept)

-- TIME_STRIDE, if the flags announce it, says nothing
unfoldable pub behind_time_stride : ℕ → ChainPiece (Unit {0})
behind_time_stride flags = Which (bit 1 flags) (As (λ _. tt) (Called TimeStride value_at)) (Says tt)

-- the flag X and the stride, if there is an octet of flags, else those that are kept
unfoldable pub flags_at : Kept → Bool → ChainPiece Kept
flags_at kept named = Which named (do
  flags ← Judged mode_fault (Row (λ _. given_row) Octet)
  stride ← stride_at kept.stride flags
  _ ← behind_time_stride flags
  Says (record { extension = bit 4 flags; stride = stride })) (Says kept)

-- the dynamic chain of RTP
unfoldable pub rtp_dynamic_at : Kept → ChainPiece RtpDynamic
rtp_dynamic_at kept = do
  first ← Judged rtp_fault (Row (λ _. rtp_row) Octet)
  second ← Row (λ _. type_row) Octet
  sn ← Called Sn Word
  ts ← Called Ts quad_at
  sources ← Judged csrc_list_fault (Called CsrcList Octet)
  given ← flags_at kept (bit 4 first)
  Says (rtp_dynamic_of first second sn ts given)

-- the fields of the three chains as one record
abbrev pub joined : IpDynamic → ℕ → RtpDynamic → Dynamic
joined ip udp_sum rtp = record {
  tos = ip.tos;
  ttl = ip.ttl;
  id = ip.id;
  df = ip.df;
  rnd = ip.rnd;
  nbo = ip.nbo;
  udp_sum = udp_sum;
  padding = rtp.padding;
  extension = rtp.extension;
  marker = rtp.marker;
  payload_type = rtp.payload_type;
  sn = rtp.sn;
  ts = rtp.ts;
  stride = rtp.stride;
}

-- the dynamic chains of IPv4, UDP and RTP
unfoldable pub dynamic_at : Kept → ChainPiece Dynamic
dynamic_at kept = do
  ip ← ip_dynamic_at
  udp_sum ← Called UdpSum Word
  rtp ← rtp_dynamic_at kept
  Says (joined ip udp_sum rtp)

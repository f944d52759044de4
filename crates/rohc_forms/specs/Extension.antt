-- Extension 3 piece by piece (RFC 3095 5.7.5).
--
--   | 1     1  |  S  | R-TS| Tsc |  I  | ip  | rtp |
--   | TOS | TTL | DF  | PR  | IPX | NBO | RND | ip2 |  if ip = 1
--   |                      SN                       |  if S = 1
--   /                      TS                       /  1 to 4 octets, if R-TS = 1
--   |                      TOS                      |  if TOS = 1
--   |                      TTL                      |  if TTL = 1
--   |                   Protocol                    |  if PR = 1
--   /                     IP-ID                     /  2 octets, if I = 1
--   |   Mode    | R-PT|  M  | R-X |CSRC | TSS | TIS |  if rtp = 1
--   |  P  |                  PT                     |  if R-PT = 1
--   /                   TS_STRIDE                   /  1 to 4 octets, if TSS = 1
--   /                  TIME_STRIDE                  /  1 to 4 octets, if TIS = 1
use Rattle.std.specs.Prelude.{ℕ, ◌||◌, List, [], Bool, Option, Some, None, is_some}
use Rattle.rohc_bits.specs.Grammar.{Octet, Value, Says, IfNamed, As, Judged, Unless, Called, Row}
use Rattle.rohc_bits.specs.InTurn.{◌>>=◌}
use Rattle.rohc_bits.specs.LowBits.{LowBits}
use Rattle.rohc_forms.specs.declared.form.FormKind.{FormKind}
use Rattle.rohc_forms.specs.declared.parts.IpFlags.{IpFlags}
use Rattle.rohc_forms.specs.declared.parts.IpGiven.{IpGiven}
use Rattle.rohc_forms.specs.declared.parts.RtpFlags.{RtpFlags}
use Rattle.rohc_forms.specs.Octets.{FormPiece, octet_if, word_if}
use Rattle.rohc_forms.specs.Table.{Said, Sn, Ts, Id, S, R-TS, Tsc, I, RTP, TOS, TTL, PR, TSS, TIS, IpOctet, RtpOctet, TypeOctet, Name, Of, By, row, has, and_said}
use Rattle.rohc_forms.specs.Given.{Extended3, RtpSaid, ip_flags, rtp_flags, rtp_said, rtp_values, extended_3, with_offset_if}
use Rattle.rohc_forms.specs.Judging.{ip_fault, protocol_fault, rtp_fault, stride_fault, no_stride_fault}

-- the ip octet, if flag ip is set
unfoldable pub ip_octet_at : Bool → FormKind → FormPiece (Option IpFlags)
ip_octet_at named kind = IfNamed named (As ip_flags (Judged (ip_fault kind) (Row (λ _. row IpOctet) Octet)))

-- eight more bits of SN, if S is set
abbrev pub with_sn : Said → Option ℕ → Said
with_sn said None = said
with_sn said (Some octet) = and_said Sn (record { count = 8; value = octet }) said

unfoldable pub sn_at : Bool → Said → FormPiece Said
sn_at named said = As (with_sn said) (Called (Of Sn) (IfNamed named Octet))

-- more bits of TS, if R-TS is set
abbrev pub with_ts : Said → Option LowBits → Said
with_ts said None = said
with_ts said (Some value) = and_said Ts value said

unfoldable pub ts_at : Bool → Said → FormPiece Said
ts_at named said = As (with_ts said) (Called (Of Ts) (IfNamed named Value))

-- the protocol's octet, if PR is set, says nothing
unfoldable pub behind_protocol : Bool → FormPiece (Unit {0})
behind_protocol named = As (λ _. tt) (Called (By PR) (IfNamed named (Judged protocol_fault Octet)))

-- what the ip octet announces: TOS, TTL, protocol
unfoldable pub ip_given_at : Option IpFlags → FormPiece (Option IpGiven)
ip_given_at None = Says None
ip_given_at (Some ip) = do
  tos ← Called (By TOS) (octet_if ip.tos)
  ttl ← Called (By TTL) (octet_if ip.ttl)
  _ ← behind_protocol ip.protocol
  Says (Some (record { tos = tos; ttl = ttl; df = ip.df; nbo = ip.nbo; rnd = ip.rnd }))

-- the offset of the Identification, if I is set
abbrev pub and_offset : Said → Option ℕ → Said
and_offset said offset = with_offset_if offset said

unfoldable pub offset_at : Bool → Said → FormPiece Said
offset_at named said = As (and_offset said) (Called (Of Id) (word_if named))

-- TS_STRIDE, if TSS is set; it doesn't matter how many bits its encoding has
abbrev pub stride_of : Option LowBits → Option ℕ
stride_of None = None
stride_of (Some value) = Some value.value

unfoldable pub stride_at : Bool → FormPiece (Option ℕ)
stride_at named = As stride_of (Called (By TSS) (IfNamed named (Judged (λ d. stride_fault d.value) Value)))

-- TIME_STRIDE, if TIS is set, says nothing
unfoldable pub behind_time_stride : Bool → FormPiece (Unit {0})
behind_time_stride named = As (λ _. tt) (Called (By TIS) (IfNamed named Value))

-- the octet of P and PT, if it is there
abbrev pub type_row : Option ℕ → List (Name × ℕ)
type_row None = []
type_row (Some octet) = row TypeOctet

-- what the rtp octet announces: P and PT, and the strides
unfoldable pub behind_rtp_octet : RtpFlags → FormPiece RtpSaid
behind_rtp_octet rtp = do
  octet ← Row type_row (octet_if rtp.payload_type)
  stride ← stride_at rtp.stride
  _ ← behind_time_stride rtp.time_stride
  Says (rtp_said rtp octet stride)

-- the rtp octet and what it announces
abbrev pub rtp_at : FormPiece RtpSaid
rtp_at = do
  octet ← Judged rtp_fault (Row (λ _. row RtpOctet) Octet)
  behind_rtp_octet (rtp_flags octet)

-- the same, if flag rtp is set
unfoldable pub rtp_given_at : Bool → FormPiece (Option RtpSaid)
rtp_given_at named = IfNamed named rtp_at

-- After the ip octet; the flags are the extension's first octet. If Tsc is set, a stride is in force.
unfoldable pub behind_ip_octet : ℕ → Bool → Option IpFlags → Said → FormPiece Extended3
behind_ip_octet flags stride_known ip said = do
  said ← sn_at (has S flags) said
  said ← ts_at (has R-TS flags) said
  given ← ip_given_at ip
  said ← offset_at (has I flags) said
  rtp ← rtp_given_at (has RTP flags)
  Unless (no_stride_fault (has Tsc flags) (stride_known || is_some (rtp_values rtp).stride))
      (Says (extended_3 said given rtp))

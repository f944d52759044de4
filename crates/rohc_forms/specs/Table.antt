-- The formats of packets and of extensions 0 to 2 (RFC 3095 5.7.1 to 5.7.5), and what their bits say.
use Rattle.std.specs.Prelude.{ℕ, ◌+◌, ◌/◌, ◌%◌, ◌^◌, List, [], ◌∷◌, map, Bool, false, ◌==◌, nat_lt, if◌then◌else◌, Option, Some, None}
use Rattle.rohc_bits.specs.Reading.{bit}
use Rattle.rohc_forms.specs.declared.form.FormKind.{FormKind}
use Rattle.rohc_forms.specs.declared.form.FormKind.TheVariants.{Uo0, Uo1, Uo1Id, Uo1Ts, Uor2, Uor2Id, Uor2Ts}
use Rattle.rohc_bits.specs.LowBits.{LowBits}
use Rattle.rohc_forms.specs.Slices.{slice, and_bits}

-- A field's name: a number that is the same in each packet of the format, SN, TS, IP-ID, M, X, CRC.
pub data Field : Type 0 where
  Fixed : ℕ → Field
  Sn : Field
  Ts : Field
  Id : Field
  Marker : Field
  Extended : Field
  Check : Field

-- A format: its fields in order, and how many bits each has.
abbrev pub Layout : Type 0
Layout = List (Field × ℕ)

-- The formats of packets (RFC 3095 5.7.1 to 5.7.4), most significant bit first.
--
--   UO-0        | 0 |      SN       |    CRC    |
--
--   UO-1        | 1   0 |          TS           |      UOR-2       | 1   1   0 |        TS         |
--               | M |      SN       |    CRC    |                  |TS | M |          SN           |
--                                                                  | X |            CRC            |
--   UO-1-ID     | 1   0 |T=0|       IP-ID       |
--               | X |      SN       |    CRC    |      UOR-2-ID    | 1   1   0 |       IP-ID       |
--                                                                  |T=0| M |          SN           |
--   UO-1-TS     | 1   0 |T=1|        TS         |                  | X |            CRC            |
--               | M |      SN       |    CRC    |
--                                                      UOR-2-TS    | 1   1   0 |        TS         |
--                                                                  |T=1| M |          SN           |
--                                                                  | X |            CRC            |
abbrev pub layout : FormKind → Layout
layout Uo0 = (Fixed 0, 1) ∷ (Sn, 4) ∷ (Check, 3) ∷ []
layout Uo1 = (Fixed 2, 2) ∷ (Ts, 6) ∷ (Marker, 1) ∷ (Sn, 4) ∷ (Check, 3) ∷ []
layout Uo1Id = (Fixed 4, 3) ∷ (Id, 5) ∷ (Extended, 1) ∷ (Sn, 4) ∷ (Check, 3) ∷ []
layout Uo1Ts = (Fixed 5, 3) ∷ (Ts, 5) ∷ (Marker, 1) ∷ (Sn, 4) ∷ (Check, 3) ∷ []
layout Uor2 = (Fixed 6, 3) ∷ (Ts, 6) ∷ (Marker, 1) ∷ (Sn, 6) ∷ (Extended, 1) ∷ (Check, 7) ∷ []
layout Uor2Id =
    (Fixed 6, 3) ∷ (Id, 5) ∷ (Fixed 0, 1) ∷ (Marker, 1) ∷ (Sn, 6) ∷ (Extended, 1) ∷ (Check, 7) ∷ []
layout Uor2Ts =
    (Fixed 6, 3) ∷ (Ts, 5) ∷ (Fixed 1, 1) ∷ (Marker, 1) ∷ (Sn, 6) ∷ (Extended, 1) ∷ (Check, 7) ∷ []

-- The fields that +T and -T of an extension belong to, by the format of the packet. UO-0, UO-1 and UO-1-TS
-- have no extension.
abbrev pub plus : FormKind → Field
plus Uo0 = Ts
plus Uo1 = Ts
plus Uo1Id = Id
plus Uo1Ts = Ts
plus Uor2 = Ts
plus Uor2Id = Id
plus Uor2Ts = Ts

abbrev pub minus : FormKind → Field
minus Uo0 = Ts
minus Uo1 = Ts
minus Uo1Id = Ts
minus Uo1Ts = Ts
minus Uor2 = Ts
minus Uor2Id = Ts
minus Uor2Ts = Id

-- The formats of extensions 0, 1 and 2 (RFC 3095 5.7.5), most significant bit first.
--
--   0   | 0   0 |    SN     |    +T     |
--
--   1   | 0   1 |    SN     |    +T     |      2   | 1   0 |    SN     |    +T     |
--       |              -T               |          |              +T               |
--                                                  |              -T               |
abbrev pub layout_0 : FormKind → Layout
layout_0 kind = (Fixed 0, 2) ∷ (Sn, 3) ∷ (plus kind, 3) ∷ []

abbrev pub layout_1 : FormKind → Layout
layout_1 kind = (Fixed 1, 2) ∷ (Sn, 3) ∷ (plus kind, 3) ∷ (minus kind, 8) ∷ []

abbrev pub layout_2 : FormKind → Layout
layout_2 kind = (Fixed 2, 2) ∷ (Sn, 3) ∷ (plus kind, 3) ∷ (plus kind, 8) ∷ (minus kind, 8) ∷ []

-- the format of the extension that starts with this octet, which is below C0
abbrev pub short_layout : FormKind → ℕ → Layout
short_layout kind first =
    if nat_lt first 0x40 then layout_0 kind else if nat_lt first 0x80 then layout_1 kind else layout_2 kind

-- The parts of the octets of an extension 3 (RFC 3095 5.7.5): flags, and numbers of more than one bit.
pub data Part : Type 0 where
  Prefix : Part
  S : Part
  R-TS : Part
  Tsc : Part
  I : Part
  IP : Part
  RTP : Part
  TOS : Part
  TTL : Part
  DF : Part
  PR : Part
  IPX : Part
  NBO : Part
  RND : Part
  IP2 : Part
  Mode : Part
  R-PT : Part
  M : Part
  R-X : Part
  CSRC : Part
  TSS : Part
  TIS : Part
  P : Part
  PT : Part

-- how many bits each part has
abbrev pub size : Part → ℕ
size Prefix = 2
size Mode = 2
size PT = 7
size flag = 1

-- An extension 3 has a first octet, and at most one octet each that ip, rtp and R-PT announce.
pub data Extension3Octet : Type 0 where
  FirstOctet : Extension3Octet
  IpOctet : Extension3Octet
  RtpOctet : Extension3Octet
  TypeOctet : Extension3Octet

--     0     1     2     3     4     5     6     7
--   | 1     1  |  S  | R-TS| Tsc |  I  | ip  | rtp |
--   | TOS | TTL | DF  | PR  | IPX | NBO | RND | ip2 |
--   |   Mode    | R-PT|  M  | R-X |CSRC | TSS | TIS |
--   |  P  |                  PT                     |
abbrev pub parts : Extension3Octet → List Part
parts FirstOctet = Prefix ∷ S ∷ R-TS ∷ Tsc ∷ I ∷ IP ∷ RTP ∷ []
parts IpOctet = TOS ∷ TTL ∷ DF ∷ PR ∷ IPX ∷ NBO ∷ RND ∷ IP2 ∷ []
parts RtpOctet = Mode ∷ R-PT ∷ M ∷ R-X ∷ CSRC ∷ TSS ∷ TIS ∷ []
parts TypeOctet = P ∷ PT ∷ []

-- The name of a field: of a format; of a part, or of what that flag announces; or the UDP checksum.
pub data Name : Type 0 where
  Of : Field → Name
  By : Part → Name
  UdpSum : Name

-- the fields of a format, and those of an octet of an extension 3, with their names and widths
abbrev pub named : Layout → List (Name × ℕ)
named l = map (λ field. (Of field.0, field.1)) l

abbrev pub row : Extension3Octet → List (Name × ℕ)
row octet = map (λ part. (By part, size part)) (parts octet)

-- The place of each part in its octet: how many less significant bits follow it. A law says that the octets
-- are made of their parts.
abbrev pub place : Part → ℕ
place Prefix = 6
place S = 5
place R-TS = 4
place Tsc = 3
place I = 2
place IP = 1
place RTP = 0
place TOS = 7
place TTL = 6
place DF = 5
place PR = 4
place IPX = 3
place NBO = 2
place RND = 1
place IP2 = 0
place Mode = 6
place R-PT = 5
place M = 4
place R-X = 3
place CSRC = 2
place TSS = 1
place TIS = 0
place P = 7
place PT = 0

-- the number in a part, and whether a flag is set
abbrev pub number_in : Part → ℕ → ℕ
number_in part octet = octet / 2 ^ place part % 2 ^ size part

abbrev pub has : Part → ℕ → Bool
has flag octet = bit (place flag) octet

-- What is said of the fields: bits of numbers, two flags, the check.
pub record Said : Type 0 where
  pub sn : Option LowBits
  pub ts : Option LowBits
  pub id : Option LowBits
  pub marker : Bool
  pub extended : Bool
  pub check : ℕ

abbrev pub nothing : Said
nothing = record { sn = None; ts = None; id = None; marker = false; extended = false; check = 0 }

-- more that is said: bits of a number are appended to those that are said already
abbrev pub and_said : Field → LowBits → Said → Said
and_said (Fixed n) d s = s
and_said Sn d s = record s { sn = and_bits s.sn d }
and_said Ts d s = record s { ts = and_bits s.ts d }
and_said Id d s = record s { id = and_bits s.id d }
and_said Marker d s = record s { marker = d.value == 1 }
and_said Extended d s = record s { extended = d.value == 1 }
and_said Check d s = record s { check = d.value }

-- how many bits a format has
abbrev pub width : Layout → ℕ
width [] = 0
width ((field, bits) ∷ more) = bits + width more

-- What a number says under a format, after what is said already. The bits of each field precede those of the
-- fields after it.
abbrev pub under : Layout → ℕ → Said → Said
under [] n said = said
under ((field, bits) ∷ more) n said = under more n (and_said field (slice n (width more) bits) said)

-- the fields in the octets before an extension
abbrev pub base_said : FormKind → ℕ → Said
base_said kind n = under (layout kind) n nothing

-- The same for any UOR-2, with its bits of TS or IP-ID.
abbrev pub uor2_said : ℕ → Option LowBits → Option LowBits → Said
uor2_said n ts id =
    record {
      sn = Some (slice n 8 6);
      ts = ts;
      id = id;
      marker = (slice n 14 1).value == 1;
      extended =
          (slice n 7 1).value == 1;
      check = (slice n 0 7).value;
    }

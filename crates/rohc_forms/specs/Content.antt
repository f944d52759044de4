-- What a packet of kind Other says (RFC 3095 5.7.1 to 5.7.5).
use Rattle.std.specs.Prelude.{ℕ, ◌+◌, ◌*◌, List, Bool, nat_lt, if◌then◌else◌, Option, Some, None}
use Rattle.rohc_bits.specs.Reading.{bit}
use Rattle.rohc_forms.specs.declared.form.FormKind.{FormKind}
use Rattle.rohc_forms.specs.declared.form.FormKind.TheVariants.{Uo0, Uo1, Uo1Id, Uo1Ts, Uor2, Uor2Id, Uor2Ts}
use Rattle.rohc_forms.specs.declared.parts.Base.{Base}
use Rattle.rohc_bits.specs.LowBits.{LowBits}
use Rattle.rohc_forms.specs.Table.{Said}
use Rattle.rohc_forms.specs.Given.{ValuesSaid, Extended3}

-- The base octets that begin with these three, most significant octet first. A UO-0 and the UO-1 formats have
-- fewer, and their first one decides.
abbrev pub three_octets : ℕ → ℕ → ℕ → Base
three_octets first second third = record { first = first; number = first * 65536 + (second * 256 + third) }

-- The format of a packet, by the RND in force. The first octet starts with 0, 10 or 110. The T bit of UO-1 is
-- bit 5 of the first octet, that of UOR-2 is bit 7 of the second.
abbrev pub form_kind : Base → Bool → FormKind
form_kind base rnd =
    if nat_lt base.first 0x80 then Uo0
    else if nat_lt base.first 0xc0 then (if rnd then Uo1 else if bit 5 base.first then Uo1Ts else Uo1Id)
    else (if rnd then Uor2 else if bit 15 base.number then Uor2Ts else Uor2Id)

-- The content of a packet up to the end of its extension.
pub record Head : Type 0 where
  pub kind : FormKind
  pub rnd : Bool
  pub said : Said
  pub tsc : Option Bool
  pub marker : Bool
  pub values : Option ValuesSaid

-- the content without an extension 3
abbrev pub plain_head : FormKind → Bool → Said → Head
plain_head kind rnd said =
    record { kind = kind; rnd = rnd; said = said; tsc = None; marker = said.marker; values = None }

-- the content with one
abbrev pub extended_head : FormKind → Bool → Bool → Extended3 → Head
extended_head kind rnd tsc extended = record {
  kind = kind;
  rnd = rnd;
  said = extended.said;
  tsc = Some tsc;
  marker = extended.marker;
  values = Some extended.values;
}

-- What is said of the Identification: nothing, bits of its offset, or the whole one.
pub data IdSaid : Type 0 where
  Same : IdSaid
  Offset : LowBits → IdSaid
  Whole : ℕ → IdSaid

-- an Identification that stands in the packet is the whole one
abbrev pub id_said : Option ℕ → Option LowBits → IdSaid
id_said (Some id) bits = Whole id
id_said None (Some bits) = Offset bits
id_said None None = Same

-- the bits of its offset, and the whole one
abbrev pub offset_said : IdSaid → Option LowBits
offset_said Same = None
offset_said (Offset bits) = Some bits
offset_said (Whole id) = None

abbrev pub whole_said : IdSaid → Option ℕ
whole_said Same = None
whole_said (Offset bits) = None
whole_said (Whole id) = Some id

-- the stride of an extension 3, if it gives one
abbrev pub stride_given : Option ValuesSaid → Option ℕ
stride_given None = None
stride_given (Some values) = values.stride

-- the bits, or none; each format has some bits of SN
abbrev pub bits_said : Option LowBits → LowBits
bits_said None = record { count = 0; value = 0 }
bits_said (Some bits) = bits

-- The content of a packet of kind Other; `rnd` is the RND in force.
pub record Content : Type 0 where
  pub kind : FormKind
  pub rnd : Bool
  pub sn : LowBits
  pub ts : Option LowBits
  pub tsc : Option Bool
  pub id : IdSaid
  pub udp_sum : Option ℕ
  pub marker : Bool
  pub values : Option ValuesSaid
  pub check : ℕ
  pub payload : List ℕ

-- the content of a packet, from what its extension ends with, the Identification, the UDP checksum and the
-- payload
abbrev pub whole_content : Head → Option ℕ → Option ℕ → List ℕ → Content
whole_content head id udp_sum payload = record {
  kind = head.kind;
  rnd = head.rnd;
  sn = bits_said head.said.sn;
  ts = head.said.ts;
  tsc = head.tsc;
  id = id_said id head.said.id;
  udp_sum = udp_sum;
  marker = head.marker;
  values = head.values;
  check = head.said.check;
  payload = payload;
}

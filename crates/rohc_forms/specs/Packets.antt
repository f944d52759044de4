-- Whole packets of kind Other, piece by piece (RFC 3095 5.7.1 to 5.7.5).
use Rattle.std.specs.Prelude.{ℕ, ◌+◌, ◌*◌, List, take, drop, Bool, false, nat_lt, if◌then◌else◌, Option, Some, None, option_map, Result, Ok, Err}
use Rattle.rohc_bits.specs.Grammar.{Octet, Word, Says, Which, As, Unless, Called, Row}
use Rattle.rohc_bits.specs.InTurn.{◌>>=◌}
use Rattle.rohc_frame.specs.Header.{Header}
pub use Rattle.rohc_frame.specs.Header.{IsOther}
use Rattle.rohc_forms.specs.declared.form.FormKind.{FormKind}
use Rattle.rohc_forms.specs.declared.form.IdBits.{IdBits}
use Rattle.rohc_forms.specs.declared.form.IdBits.TheVariants as code
use Rattle.rohc_forms.specs.declared.form.Form.{Form}
use Rattle.rohc_forms.specs.declared.form.Values.{Values}
use Rattle.rohc_forms.specs.declared.parts.Fields.{Fields}
use Rattle.rohc_forms.specs.declared.parts.Base.{Base}
use Rattle.rohc_forms.specs.declared.parts.Extension3 as parts
use Rattle.rohc_forms.specs.declared.parts.Head as parts_head
use Rattle.rohc_forms.specs.declared.parts.RtpGiven.{RtpGiven}
use Rattle.rohc_forms.specs.declared.refusal.FormRefusal.{FormRefusal}
use Rattle.rohc_bits.specs.LowBits.{low_bits}
use Rattle.rohc_forms.specs.Octets.{FormPiece, read, word_if}
use Rattle.rohc_forms.specs.Table.{Said, Id, Tsc, I, IP, FirstOctet, Name, Of, UdpSum, named, row, has, under, layout_0, layout_1, layout_2, short_layout, base_said}
use Rattle.rohc_forms.specs.Judging.{twice_fault}
use Rattle.rohc_forms.specs.Kinds.{is_whole}
use Rattle.rohc_forms.specs.Given.{RtpSaid, ValuesSaid, rnd_in_force, Extended3}
use Rattle.rohc_forms.specs.Content.{Content, Head, IdSaid, Offset, Same, Whole, form_kind, plain_head, extended_head, whole_content}
use Rattle.rohc_forms.specs.Extension.{ip_octet_at, behind_ip_octet}

-- the fields of the code as plain data
abbrev pub said_by : Fields → Said
said_by f =
    record {
      sn = Some (low_bits f.sn);
      ts = option_map low_bits f.ts;
      id =
          option_map low_bits f.id;
      marker = f.marker;
      extended = f.extended;
      check = f.check;
    }

-- what is given of RTP, and all values that are given, as plain data
abbrev pub rtp_by : RtpGiven → RtpSaid
rtp_by g = record {
  marker = g.marker;
  extension = g.extension;
  padding = g.padding;
  payload_type =
      g.payload_type;
  stride = g.stride;
}

abbrev pub values_by : Values → ValuesSaid
values_by v = record {
  tos = v.tos;
  ttl = v.ttl;
  payload_type = v.payload_type;
  stride = v.stride;
  padding = v.padding;
  df = v.df;
  nbo = v.nbo;
  rnd = v.rnd;
  extension = v.extension;
}

-- the stride that is given, if one is
abbrev pub stride_in : Option Values → Option ℕ
stride_in None = None
stride_in (Some v) = v.stride

abbrev pub extended_by : parts.Extension3 → Extended3
extended_by e = record { said = said_by e.fields; marker = e.marker; values = values_by e.values }

-- The octets before an extension, as one number, most significant octet first. The first octet decides how
-- many they are; a law says that each format has as many.
unfoldable pub base_at : ℕ → FormPiece Base
base_at first =
    Which (nat_lt first 0x80) (Says (record { first = first; number = first }))
    (Which (nat_lt first 0xc0) (As (λ second. record { first = first; number = first * 256 + second }) Octet)
    (As (λ low. record { first = first; number = first * 65536 + low }) Word))

abbrev pub head_by : parts_head.Head → Head
head_by h =
    record {
      kind = h.kind;
      rnd = h.rnd;
      said = said_by h.fields;
      tsc = h.tsc;
      marker = h.marker;
      values =
          option_map values_by h.values;
    }

-- an extension 0, 1 or 2, whose first octet starts with 00, 01 or 10
unfoldable pub short_extension_at : FormKind → ℕ → Said → FormPiece Said
short_extension_at kind first said =
    Which (nat_lt first 0x40) (Says (under (layout_0 kind) first said))
    (Which (nat_lt first 0x80) (As (λ second. under (layout_1 kind) (first * 256 + second) said)
    (Row (λ _. named (drop 3 (layout_1 kind))) Octet))
    (As (λ low. under (layout_2 kind) (first * 65536 + low) said)
    (Row (λ _. named (drop 3 (layout_2 kind))) Word)))

-- An extension 3, whose first octet starts with 11. The RND in force decides the format of the octets before
-- it.
unfoldable pub extension_3_at : Base → Bool → Bool → ℕ → FormPiece Head
extension_3_at base kept_rnd stride_known flags = do
  ip ← ip_octet_at (has IP flags) (form_kind base kept_rnd)
  Unless (twice_fault (has I flags) (rnd_in_force kept_rnd ip)) (do
    extended ← behind_ip_octet flags stride_known ip
        (base_said (form_kind base (rnd_in_force kept_rnd ip)) base.number)
    Says (extended_head (form_kind base (rnd_in_force kept_rnd ip)) (rnd_in_force kept_rnd ip) (has Tsc flags)
        extended))

-- what follows the first octet of an extension
unfoldable pub extension_at : Base → Bool → Bool → ℕ → FormPiece Head
extension_at base rnd stride_known first =
    Which (nat_lt first 0xc0)
    (As (plain_head (form_kind base rnd) rnd)
    (short_extension_at (form_kind base rnd) first (base_said (form_kind base rnd) base.number)))
    (extension_3_at base rnd stride_known first)

-- the fields of an extension's first octet, by its first bits
abbrev pub extension_row : FormKind → ℕ → List (Name × ℕ)
extension_row kind first =
    if nat_lt first 0xc0 then named (take 3 (short_layout kind first)) else row FirstOctet

-- after the octets before an extension: the extension, if X is set
abbrev pub behind_base : Base → Bool → Bool → FormPiece Head
behind_base base rnd stride_known =
    Which (base_said (form_kind base rnd) base.number).extended
    (Row (extension_row (form_kind base rnd)) Octet >>= extension_at base rnd stride_known)
    (Says (plain_head (form_kind base rnd) rnd (base_said (form_kind base rnd) base.number)))

-- X, if the octets that hold it are there
abbrev pub x_in : Bool → Result (Base × List ℕ) FormRefusal → Bool
x_in rnd (Ok (base, text)) = (base_said (form_kind base rnd) base.number).extended
x_in rnd (Err refusal) = false

-- whether an extension follows the octets before it
abbrev pub is_extended : Header → Bool → Bool
is_extended h rnd = x_in rnd (read (base_at h.first) h.rest)

-- the octets before an extension, and the extension
unfoldable pub head_at : ℕ → Bool → Bool → FormPiece Head
head_at first rnd stride_known = do
  base ← base_at first
  behind_base base rnd stride_known

-- After a packet's first octet and before its payload: the octets up to the end of its extension, the
-- Identification, if the RND in force is 1, and the UDP checksum, if packets carry one.
abbrev pub header_at : ℕ → Bool → Bool → Bool → FormPiece (Head × Option ℕ × Option ℕ)
header_at first rnd udp_sum stride_known = do
  head ← head_at first rnd stride_known
  id ← Called (Of Id) (word_if head.rnd)
  sum ← Called UdpSum (word_if udp_sum)
  Says (head, id, sum)

abbrev pub id_by : IdBits → IdSaid
id_by code.Same = Same
id_by (code.Offset bits) = Offset (low_bits bits)
id_by (code.Whole id) = Whole id

-- what is read; the Identification is the whole one exactly under RND 1
abbrev pub content : Form → Content
content f = record {
  kind = f.kind;
  rnd = is_whole f.id;
  sn = low_bits f.sn;
  ts = option_map low_bits f.ts;
  tsc = f.tsc;
  id = id_by f.id;
  udp_sum = f.udp_sum;
  marker = f.marker;
  values = option_map values_by f.values;
  check = f.check;
  payload = f.payload.now;
}

-- what a packet says, with its payload
abbrev pub with_payload : Head × Option ℕ × Option ℕ → List ℕ → Content
with_payload (head, id, sum) payload = whole_content head id sum payload

-- the content of a packet, or its refusal
abbrev pub content_in : Result ((Head × Option ℕ × Option ℕ) × List ℕ) FormRefusal →
    Result Content FormRefusal
content_in (Ok (said, payload)) = Ok (with_payload said payload)
content_in (Err refusal) = Err refusal

unfoldable pub form_at : Header → Bool → Bool → Bool → Result Content FormRefusal
form_at h rnd udp_sum stride_known = content_in (read (header_at h.first rnd udp_sum stride_known) h.rest)

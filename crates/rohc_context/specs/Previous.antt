-- The previous reference, as it is kept beside the reference.
-- Words: fields_by, whole_by, SharesNumbering, IsAlike.
use Rattle.std.specs.Prelude.{◌≡◌, ℕ}
use Rattle.rohc_header.specs.declared.fields.Dynamic.{Dynamic}
use Rattle.rohc_context.specs.declared.reference.Previous.{Previous}
use Rattle.rohc_context.specs.declared.reference.Reference.{Reference}

-- its fields: those that are kept, and for the others those of the reference beside it
abbrev pub fields_by : (beside : Dynamic) → Previous → Dynamic
fields_by beside p = record beside {
  tos = p.tos;
  ttl = p.ttl;
  id = p.id;
  udp_sum = p.udp_sum;
  sn = p.sn;
  ts = p.ts;
  payload_type = p.payload_type;
  df = p.df;
  padding = p.padding;
  extension = p.extension;
}

-- with its registers
abbrev pub whole_by : (beside : Dynamic) → Previous → Dynamic × (ℕ × ℕ)
whole_by beside p = (fields_by beside p, p.saved)

-- the same RND, NBO and stride
pub record SharesNumbering (a b : Dynamic) : Type 0 where
  pub rnd : a.rnd ≡ b.rnd
  pub nbo : a.nbo ≡ b.nbo
  pub stride : a.stride ≡ b.stride

-- all is the same but the four numbers
pub record IsAlike (r : Reference) (p : Previous) : Type 0 where
  pub tos : p.tos ≡ r.moving.tos
  pub ttl : p.ttl ≡ r.moving.ttl
  pub payload_type : p.payload_type ≡ r.moving.payload_type
  pub df : p.df ≡ r.moving.df
  pub padding : p.padding ≡ r.moving.padding
  pub extension : p.extension ≡ r.moving.extension
  pub saved : p.saved ≡ r.saved

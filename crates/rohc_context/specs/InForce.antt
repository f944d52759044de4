-- The values in force for one packet: those that its extension 3 gives, else the reference's (RFC 3095
-- 5.7.5).
-- Words: in_force.
use Rattle.std.specs.Prelude.{ℕ, Option, Some, None, unwrap_or}
use Rattle.rohc_header.specs.declared.fields.Dynamic.{Dynamic}
use Rattle.rohc_forms.specs.Given.{ValuesSaid}

-- the stride that is given, else the one that is kept, if any
abbrev pub given_stride : Option ℕ → Option ℕ → Option ℕ
given_stride None kept = kept
given_stride (Some stride) kept = Some stride

abbrev pub in_force : Dynamic → Option ValuesSaid → Dynamic
in_force kept None = kept
in_force kept (Some v) = record kept {
  tos = unwrap_or v.tos kept.tos;
  ttl = unwrap_or v.ttl kept.ttl;
  df = unwrap_or v.df kept.df;
  rnd = unwrap_or v.rnd kept.rnd;
  nbo = unwrap_or v.nbo kept.nbo;
  padding = unwrap_or v.padding kept.padding;
  extension = unwrap_or v.extension kept.extension;
  payload_type = unwrap_or v.payload_type kept.payload_type;
  stride = given_stride v.stride kept.stride;
}

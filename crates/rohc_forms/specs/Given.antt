-- What an extension 3 gives (RFC 3095 5.7.5).
use Rattle.std.specs.Prelude.{ℕ, Bool, Option, Some, None}
use Rattle.rohc_forms.specs.declared.parts.IpFlags.{IpFlags}
use Rattle.rohc_forms.specs.declared.parts.IpGiven.{IpGiven}
use Rattle.rohc_forms.specs.declared.parts.RtpFlags.{RtpFlags}
use Rattle.rohc_forms.specs.Table.{Said, TOS, TTL, DF, PR, NBO, RND, R-PT, M, R-X, TSS, TIS, P, PT, number_in, has}

-- What an extension 3 gives. A value that is `None` stays.
pub record ValuesSaid : Type 0 where
  pub tos : Option ℕ
  pub ttl : Option ℕ
  pub payload_type : Option ℕ
  pub stride : Option ℕ
  pub padding : Option Bool
  pub df : Option Bool
  pub nbo : Option Bool
  pub rnd : Option Bool
  pub extension : Option Bool

-- What it gives of RTP, if it has an rtp octet.
pub record RtpSaid : Type 0 where
  pub marker : Bool
  pub extension : Bool
  pub padding : Option Bool
  pub payload_type : Option ℕ
  pub stride : Option ℕ

-- the flags of the ip octet
abbrev pub ip_flags : ℕ → IpFlags
ip_flags octet =
    record {
      tos = has TOS octet;
      ttl = has TTL octet;
      df = has DF octet;
      protocol = has PR octet;
      nbo =
          has NBO octet;
      rnd = has RND octet;
    }

-- the RND in force: the extension's, if it gives one, else the context's
abbrev pub rnd_in_force : Bool → Option IpFlags → Bool
rnd_in_force kept None = kept
rnd_in_force kept (Some ip) = ip.rnd

-- an offset of 16 bits replaces the bits that were said before
abbrev pub with_offset : ℕ → Said → Said
with_offset offset s = record s { id = Some (record { count = 16; value = offset }) }

abbrev pub with_offset_if : Option ℕ → Said → Said
with_offset_if None s = s
with_offset_if (Some offset) s = with_offset offset s

-- the flags of the rtp octet
abbrev pub rtp_flags : ℕ → RtpFlags
rtp_flags octet =
    record {
      payload_type = has R-PT octet;
      marker = has M octet;
      extension = has R-X octet;
      stride =
          has TSS octet;
      time_stride = has TIS octet;
    }

-- the padding flag and the payload type, in the octet that R-PT announces
abbrev pub padding_in : Option ℕ → Option Bool
padding_in None = None
padding_in (Some octet) = Some (has P octet)

abbrev pub payload_type_in : Option ℕ → Option ℕ
payload_type_in None = None
payload_type_in (Some octet) = Some (number_in PT octet)

-- what the rtp octet gives, with that octet, if it is there, and the stride
abbrev pub rtp_said : RtpFlags → Option ℕ → Option ℕ → RtpSaid
rtp_said rtp octet stride = record {
  marker = rtp.marker;
  extension = rtp.extension;
  padding = padding_in octet;
  payload_type = payload_type_in octet;
  stride = stride;
}

-- no value is given
abbrev pub no_values : ValuesSaid
no_values = record {
  tos = None;
  ttl = None;
  payload_type = None;
  stride = None;
  padding = None;
  df = None;
  nbo = None;
  rnd = None;
  extension = None;
}

-- the values that are given
abbrev pub ip_values : Option IpGiven → ValuesSaid → ValuesSaid
ip_values None v = v
ip_values (Some ip) v =
    record v { tos = ip.tos; ttl = ip.ttl; df = Some ip.df; nbo = Some ip.nbo; rnd = Some ip.rnd }

abbrev pub rtp_values : Option RtpSaid → ValuesSaid
rtp_values None = no_values
rtp_values (Some rtp) = record no_values {
  payload_type = rtp.payload_type;
  stride = rtp.stride;
  padding = rtp.padding;
  extension = Some rtp.extension;
}

-- the marker: that of the rtp octet if there is one, else that of the base octets
abbrev pub marker_in : Bool → Option RtpSaid → Bool
marker_in base None = base
marker_in base (Some rtp) = rtp.marker

-- The content of an extension 3 after its first octets.
pub record Extended3 : Type 0 where
  pub said : Said
  pub marker : Bool
  pub values : ValuesSaid

abbrev pub extended_3 : Said → Option IpGiven → Option RtpSaid → Extended3
extended_3 said ip rtp =
    record { said = said; marker = marker_in said.marker rtp; values = ip_values ip (rtp_values rtp) }

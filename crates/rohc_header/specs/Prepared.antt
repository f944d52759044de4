-- What stays of a header while only its numbers change (RFC 791 3.1; RFC 1071 2 B; RFC 3550 5.1).
-- Words: IsPrepared.
use Rattle.std.specs.Prelude.{◌≡◌, ℕ, ◌+◌, ◌*◌, ◌%◌, Bool, List, ◌++◌, sum}
use Rattle.rohc_checks.specs.Sum.{words}
use Rattle.rohc_header.specs.declared.fields.Static.{Static}
use Rattle.rohc_header.specs.declared.fields.Dynamic.{Dynamic}
use Rattle.rohc_header.specs.declared.prepared.Prepared.{Prepared}
use Rattle.rohc_header.specs.Original.{octet, flag, addresses}

-- the octets between the Identification and the checksum
abbrev pub middle_octets : (df : Bool) (ttl : ℕ) → List ℕ
middle_octets df ttl = octet (flag df 0x40) ++ octet 0 ++ octet ttl ++ octet 17

-- These octets, RTP's first octet, and the sum of the words of the IPv4 header that the fields fill. The
-- octets of the words are exchanged in the sum, which is 256 times as much modulo 65,535.
pub record StaysIn (fixed : Static) (tos ttl : ℕ) (df padding extension : Bool) (p : Prepared) :
    Type 0 where
  pub middle : p.middle ≡ middle_octets df ttl
  pub rtp : p.rtp ≡ 0x80 + flag padding 0x20 + flag extension 0x10
  pub rest : p.sum * 256 % 65535
      ≡ sum (words (octet 0x45 ++ octet tos ++ middle_octets df ttl ++ addresses fixed)) % 65535

-- what stays of the headers with these fields
abbrev pub IsPrepared : Static → Dynamic → Prepared → Type 0
IsPrepared fixed moving p = StaysIn fixed moving.tos moving.ttl moving.df moving.padding moving.extension p

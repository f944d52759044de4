-- The octets that encode the content of a chain; bits that a reader ignores may be anything (RFC 3095 5.7.7.4
-- to 5.7.7.6).
use Rattle.std.specs.Prelude.{◌≡◌, ℕ, ◌+◌, ◌*◌, ◌<◌, ◌≤◌, List, [], ◌∷◌, ◌++◌, length, Bool, true, false, Option, Some, None}
use Rattle.rohc_bits.specs.Spelling.{IsSpelled}
use Rattle.rohc_header.specs.declared.fields.Static.{Static}
use Rattle.rohc_header.specs.declared.fields.Dynamic.{Dynamic}
use Rattle.rohc_header.specs.Original.{word, quad, flag}
use Rattle.rohc_chain.specs.declared.parts.Kept.{Kept}

-- IPv4, static: version 4 and four ignored bits; protocol 17; the addresses (RFC 3095 5.7.7.4).
--
--   |  Version = 4  |       0       |
--   |           Protocol            |
--   /        Source Address         /  4 octets
--   /      Destination Address      /  4 octets
pub record SpellsIpStatic (source destination : List ℕ) (text : List ℕ) : Type 0 where
  pub ignored : ℕ
  pub four_bits : ignored < 16
  pub four_octets : length source ≡ 4
  pub also_four : length destination ≡ 4
  pub whole : text ≡ (0x40 + ignored) ∷ 17 ∷ source ++ destination

-- The static chains of IPv4, UDP and RTP: after IPv4's, the ports and the SSRC (RFC 3095 5.7.7.5 and
-- 5.7.7.6).
--
--   /          Source Port          /  2 octets
--   /       Destination Port        /  2 octets
--   /             SSRC              /  4 octets
pub record SpellsStatic (fixed : Static) (text : List ℕ) : Type 0 where
  pub ip : List ℕ
  pub spells_ip : SpellsIpStatic fixed.source fixed.destination ip
  pub whole : text ≡ ip ++ (word fixed.source_port ++ (word fixed.destination_port ++ quad fixed.ssrc))

-- IPv4, dynamic: TOS; TTL; Identification, as it stands in the IP header; DF, RND, NBO and five ignored
-- bits; an empty list of extension headers (RFC 3095 5.7.7.4).
--
--   |        Type of Service        |
--   |         Time to Live          |
--   /        Identification         /  2 octets
--   | DF|RND|NBO|         0         |
--   / Generic extension header list /  an octet 0
pub record SpellsIpDynamic (moving : Dynamic) (text : List ℕ) : Type 0 where
  pub ignored : ℕ
  pub five_bits : ignored < 32
  pub whole : text ≡ moving.tos ∷ moving.ttl ∷ word moving.id ++
      (flag moving.df 0x80 + flag moving.rnd 0x40 + flag moving.nbo 0x20 + ignored) ∷ 0 ∷ []

-- TS_STRIDE: a value above 0, or no octets, and then the stride that is kept stays
abbrev pub SpellsStride : Bool → Option ℕ → Option ℕ → List ℕ → Type 0
SpellsStride false kept stride text = (text ≡ []) × (stride ≡ kept)
SpellsStride true kept None text = ⊥
SpellsStride true kept (Some stride) text = IsSpelled text stride × (1 ≤ stride)

-- TIME_STRIDE: any value, or no octets
abbrev pub SpellsTimeStride : Bool → List ℕ → Type 0
SpellsTimeStride false text = text ≡ []
SpellsTimeStride true text = (value : ℕ) × IsSpelled text value

-- Three ignored bits, X, Mode, TIS and TSS; TS_STRIDE, if TSS is set; TIME_STRIDE, if TIS is set (RFC 3095
-- 5.7.7.6).
--
--   | Reserved  | X | Mode  |TIS|TSS|
--   :           TS_Stride           :  1 to 4 octets, if TSS = 1
--   :          Time_Stride          :  1 to 4 octets, if TIS = 1
pub record SpellsFlags (kept : Option ℕ) (extension : Bool) (stride : Option ℕ) (text : List ℕ) : Type 0 where
  pub ignored : ℕ
  pub mode : ℕ
  pub tis : Bool
  pub tss : Bool
  pub stride_text : List ℕ
  pub time_text : List ℕ
  pub three_bits : ignored < 8
  pub not_reliable : mode < 3
  pub spells_stride : SpellsStride tss kept stride stride_text
  pub spells_time : SpellsTimeStride tis time_text
  pub whole : text ≡ (32 * ignored + flag extension 0x10 + 4 * mode + flag tis 2 + flag tss 1) ∷
      stride_text ++ time_text

-- the octet of flags and what it announces, or no octets, and then what is kept stays
abbrev pub SpellsGiven : Bool → Kept → Bool → Option ℕ → List ℕ → Type 0
SpellsGiven false kept extension stride text = (text ≡ []) × (extension ≡ kept.extension)
    × (stride ≡ kept.stride)
SpellsGiven true kept extension stride text = SpellsFlags kept.stride extension stride text

-- RTP, dynamic: version 2, P, RX and no contributing sources; M and PT; SN; TS; an empty CSRC list; the octet
-- of flags, if RX is set (RFC 3095 5.7.7.6).
--
--   |  V=2  | P | RX|    CC = 0     |
--   | M |            PT             |
--   /      RTP Sequence Number      /  2 octets
--   /         RTP Timestamp         /  4 octets
--   /       Generic CSRC list       /  an octet 0
--   :      the octet of flags       :  and what it names, if RX = 1
pub record SpellsRtpDynamic (kept : Kept) (moving : Dynamic) (text : List ℕ) : Type 0 where
  pub rx : Bool
  pub given : List ℕ
  pub seven_bits : moving.payload_type < 128
  pub spells_given : SpellsGiven rx kept moving.extension moving.stride given
  pub whole : text ≡ (0x80 + flag moving.padding 0x20 + flag rx 0x10) ∷
      (flag moving.marker 0x80 + moving.payload_type) ∷ word moving.sn ++ (quad moving.ts ++ 0 ∷ given)

-- IPv4, UDP and RTP, dynamic: between IPv4's and RTP's the UDP checksum, of 2 octets (RFC 3095 5.7.7.5).
pub record SpellsDynamic (kept : Kept) (moving : Dynamic) (text : List ℕ) : Type 0 where
  pub ip : List ℕ
  pub rtp : List ℕ
  pub spells_ip : SpellsIpDynamic moving ip
  pub spells_rtp : SpellsRtpDynamic kept moving rtp
  pub whole : text ≡ ip ++ (word moving.udp_sum ++ rtp)

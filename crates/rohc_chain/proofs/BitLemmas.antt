-- Octets of flags: the flags that are put together are found in them, and they are those that are found.
use Rattle.std.proofs.Common.{◌≡◌, ℕ, ◌+◌, ◌*◌, ◌/◌, ◌%◌, ◌<◌, Bool, true, false, refl, arith}
use Rattle.std.specs.Prelude.{◌==◌}
use Rattle.std.proofs.lemmas.Bool.Decides.{nat_tests}
use Rattle.rohc_bits.specs.Reading.{bit}
use Rattle.rohc_header.specs.Original.{flag}

-- DF, RND and NBO, and five ignored bits
pub record IpFlags (octet : ℕ) (df rnd nbo : Bool) : Type 0 where
  pub is_df : bit 7 octet ≡ df
  pub is_rnd : bit 6 octet ≡ rnd
  pub is_nbo : bit 5 octet ≡ nbo

pub ip_flags : (df rnd nbo : Bool) (ignored : ℕ) → ignored < 32 → IpFlags (flag df 128 + flag rnd 64 + flag nbo 32 + ignored) df rnd nbo
ip_flags true true true i l = record { is_df = grind (arith, nat_tests); is_rnd = grind (arith, nat_tests); is_nbo = grind (arith, nat_tests) }
ip_flags true true false i l = record { is_df = grind (arith, nat_tests); is_rnd = grind (arith, nat_tests); is_nbo = grind (arith, nat_tests) }
ip_flags true false true i l = record { is_df = grind (arith, nat_tests); is_rnd = grind (arith, nat_tests); is_nbo = grind (arith, nat_tests) }
ip_flags true false false i l = record { is_df = grind (arith, nat_tests); is_rnd = grind (arith, nat_tests); is_nbo = grind (arith, nat_tests) }
ip_flags false true true i l = record { is_df = grind (arith, nat_tests); is_rnd = grind (arith, nat_tests); is_nbo = grind (arith, nat_tests) }
ip_flags false true false i l = record { is_df = grind (arith, nat_tests); is_rnd = grind (arith, nat_tests); is_nbo = grind (arith, nat_tests) }
ip_flags false false true i l = record { is_df = grind (arith, nat_tests); is_rnd = grind (arith, nat_tests); is_nbo = grind (arith, nat_tests) }
ip_flags false false false i l = record { is_df = grind (arith, nat_tests); is_rnd = grind (arith, nat_tests); is_nbo = grind (arith, nat_tests) }

ip_octet_by : (df rnd nbo : Bool) (octet : ℕ) → octet < 256 → bit 7 octet ≡ df → bit 6 octet ≡ rnd → bit 5 octet ≡ nbo →
    octet ≡ flag df 128 + flag rnd 64 + flag nbo 32 + octet % 32
ip_octet_by true true true o l a b c = grind (arith, nat_tests)
ip_octet_by true true false o l a b c = grind (arith, nat_tests)
ip_octet_by true false true o l a b c = grind (arith, nat_tests)
ip_octet_by true false false o l a b c = grind (arith, nat_tests)
ip_octet_by false true true o l a b c = grind (arith, nat_tests)
ip_octet_by false true false o l a b c = grind (arith, nat_tests)
ip_octet_by false false true o l a b c = grind (arith, nat_tests)
ip_octet_by false false false o l a b c = grind (arith, nat_tests)

pub ip_octet : (octet : ℕ) → octet < 256 → octet ≡ flag (bit 7 octet) 128 + flag (bit 6 octet) 64 + flag (bit 5 octet) 32 + octet % 32
ip_octet octet l = ip_octet_by (bit 7 octet) (bit 6 octet) (bit 5 octet) octet l refl refl refl

-- version 2, P, RX and no contributing sources
pub record RtpFirst (octet : ℕ) (padding rx : Bool) : Type 0 where
  pub version : (octet / 64 == 2) ≡ true
  pub sources : (octet % 16 == 0) ≡ true
  pub is_padding : bit 5 octet ≡ padding
  pub is_rx : bit 4 octet ≡ rx

pub rtp_first : (padding rx : Bool) → RtpFirst (128 + flag padding 32 + flag rx 16) padding rx
rtp_first true true = record { version = refl; sources = refl; is_padding = refl; is_rx = refl }
rtp_first true false = record { version = refl; sources = refl; is_padding = refl; is_rx = refl }
rtp_first false true = record { version = refl; sources = refl; is_padding = refl; is_rx = refl }
rtp_first false false = record { version = refl; sources = refl; is_padding = refl; is_rx = refl }

rtp_first_by : (padding rx : Bool) (octet : ℕ) → octet / 64 ≡ 2 → octet % 16 ≡ 0 → bit 5 octet ≡ padding → bit 4 octet ≡ rx → octet ≡ 128 + flag padding 32 + flag rx 16
rtp_first_by true true o v s a b = grind (arith, nat_tests)
rtp_first_by true false o v s a b = grind (arith, nat_tests)
rtp_first_by false true o v s a b = grind (arith, nat_tests)
rtp_first_by false false o v s a b = grind (arith, nat_tests)

pub rtp_first_octet : (octet : ℕ) → octet / 64 ≡ 2 → octet % 16 ≡ 0 → octet ≡ 128 + flag (bit 5 octet) 32 + flag (bit 4 octet) 16
rtp_first_octet octet v s = rtp_first_by (bit 5 octet) (bit 4 octet) octet v s refl refl

-- M and PT
pub record RtpSecond (octet : ℕ) (marker : Bool) (payload_type : ℕ) : Type 0 where
  pub is_marker : bit 7 octet ≡ marker
  pub is_payload_type : octet % 128 ≡ payload_type

pub rtp_second : (marker : Bool) (payload_type : ℕ) → payload_type < 128 → RtpSecond (flag marker 128 + payload_type) marker payload_type
rtp_second true pt l = record { is_marker = grind (arith, nat_tests); is_payload_type = omega arith }
rtp_second false pt l = record { is_marker = grind (arith, nat_tests); is_payload_type = omega arith }

rtp_second_by : (marker : Bool) (octet : ℕ) → octet < 256 → bit 7 octet ≡ marker → octet ≡ flag marker 128 + octet % 128
rtp_second_by true o l a = grind (arith, nat_tests)
rtp_second_by false o l a = grind (arith, nat_tests)

pub rtp_second_octet : (octet : ℕ) → octet < 256 → octet ≡ flag (bit 7 octet) 128 + octet % 128
rtp_second_octet octet l = rtp_second_by (bit 7 octet) octet l refl

-- three ignored bits, X, Mode, TIS and TSS
pub record GivenFlags (octet : ℕ) (extension : Bool) (mode : ℕ) (tis tss : Bool) : Type 0 where
  pub is_extension : bit 4 octet ≡ extension
  pub is_mode : octet / 4 % 4 ≡ mode
  pub is_tis : bit 1 octet ≡ tis
  pub is_tss : bit 0 octet ≡ tss

pub given_flags : (extension tis tss : Bool) (ignored mode : ℕ) → mode < 4 → GivenFlags (32 * ignored + flag extension 16 + 4 * mode + flag tis 2 + flag tss 1) extension mode tis tss
given_flags true true true i m l = record { is_extension = grind (arith, nat_tests); is_mode = omega arith; is_tis = grind (arith, nat_tests); is_tss = grind (arith, nat_tests) }
given_flags true true false i m l = record { is_extension = grind (arith, nat_tests); is_mode = omega arith; is_tis = grind (arith, nat_tests); is_tss = grind (arith, nat_tests) }
given_flags true false true i m l = record { is_extension = grind (arith, nat_tests); is_mode = omega arith; is_tis = grind (arith, nat_tests); is_tss = grind (arith, nat_tests) }
given_flags true false false i m l = record { is_extension = grind (arith, nat_tests); is_mode = omega arith; is_tis = grind (arith, nat_tests); is_tss = grind (arith, nat_tests) }
given_flags false true true i m l = record { is_extension = grind (arith, nat_tests); is_mode = omega arith; is_tis = grind (arith, nat_tests); is_tss = grind (arith, nat_tests) }
given_flags false true false i m l = record { is_extension = grind (arith, nat_tests); is_mode = omega arith; is_tis = grind (arith, nat_tests); is_tss = grind (arith, nat_tests) }
given_flags false false true i m l = record { is_extension = grind (arith, nat_tests); is_mode = omega arith; is_tis = grind (arith, nat_tests); is_tss = grind (arith, nat_tests) }
given_flags false false false i m l = record { is_extension = grind (arith, nat_tests); is_mode = omega arith; is_tis = grind (arith, nat_tests); is_tss = grind (arith, nat_tests) }

given_octet_by : (extension tis tss : Bool) (octet : ℕ) → bit 4 octet ≡ extension → bit 1 octet ≡ tis → bit 0 octet ≡ tss →
    octet ≡ 32 * (octet / 32) + flag extension 16 + 4 * (octet / 4 % 4) + flag tis 2 + flag tss 1
given_octet_by true true true o a b c = grind (arith, nat_tests)
given_octet_by true true false o a b c = grind (arith, nat_tests)
given_octet_by true false true o a b c = grind (arith, nat_tests)
given_octet_by true false false o a b c = grind (arith, nat_tests)
given_octet_by false true true o a b c = grind (arith, nat_tests)
given_octet_by false true false o a b c = grind (arith, nat_tests)
given_octet_by false false true o a b c = grind (arith, nat_tests)
given_octet_by false false false o a b c = grind (arith, nat_tests)

pub given_octet : (octet : ℕ) → octet ≡ 32 * (octet / 32) + flag (bit 4 octet) 16 + 4 * (octet / 4 % 4) + flag (bit 1 octet) 2 + flag (bit 0 octet) 1
given_octet octet = given_octet_by (bit 4 octet) (bit 1 octet) (bit 0 octet) octet refl refl refl

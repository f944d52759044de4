-- Why a field of an IR or IR-DYN is refused, if it is (RFC 3095 5.7.7).
use Rattle.std.specs.Prelude.{ℕ, ◌/◌, ◌%◌, Bool, ◌==◌, if◌then◌else◌, Option, Some, None}
use Rattle.rohc_chain.specs.declared.refusal.ChainRefusal.{ChainRefusal}
use Rattle.rohc_chain.specs.declared.refusal.ChainRefusal.TheVariants.{Profile, ProfileChange, IpVersion, Protocol, ExtensionList, RtpVersion, Csrc, ZeroStride, ReliableMode}

-- the refusal, unless the test holds
abbrev pub unless : Bool → ChainRefusal → Option ChainRefusal
unless holds refusal = if holds then None else Some refusal

-- the Profile octet of an IR: 01, or 00 if the IR has no dynamic chain
abbrev pub ir_profile_fault : Bool → ℕ → Option ChainRefusal
ir_profile_fault dynamic octet =
    if octet == 0 then (if dynamic then Some Profile else None) else unless (octet == 1) Profile

-- the Profile octet of an IR-DYN, for a context of this profile: 01 for profile 1; profile 0 takes none
abbrev pub dyn_profile_fault : ℕ → ℕ → Option ChainRefusal
dyn_profile_fault profile octet =
    if octet == 1 then (if profile == 0 then Some ProfileChange else None) else Some Profile

-- the high four bits are the IP version
abbrev pub version_fault : ℕ → Option ChainRefusal
version_fault octet = unless (octet / 16 == 4) IpVersion

-- 17 is UDP
abbrev pub protocol_fault : ℕ → Option ChainRefusal
protocol_fault octet = unless (octet == 17) Protocol

-- one octet 00 is an empty list
abbrev pub extension_list_fault : ℕ → Option ChainRefusal
extension_list_fault octet = unless (octet == 0) ExtensionList

-- the same for the CSRC list
abbrev pub csrc_list_fault : ℕ → Option ChainRefusal
csrc_list_fault octet = unless (octet == 0) Csrc

-- the two high bits are the RTP version, the low four the number of contributing sources
abbrev pub rtp_fault : ℕ → Option ChainRefusal
rtp_fault octet = if octet / 64 == 2 then unless (octet % 16 == 0) Csrc else Some RtpVersion

-- bits 3 and 2 are the mode
abbrev pub mode_fault : ℕ → Option ChainRefusal
mode_fault octet = if octet / 4 % 4 == 3 then Some ReliableMode else None

-- TS_STRIDE is above 0
abbrev pub stride_fault : ℕ → Option ChainRefusal
stride_fault stride = if stride == 0 then Some ZeroStride else None

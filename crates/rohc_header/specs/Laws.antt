-- Laws of original headers and of their checks.
use Rattle.std.specs.Prelude.{◌≡◌, ◌≤◌, ℕ, ◌+◌, Bool, List, ◌++◌, length}
use Rattle.std.specs.List.Sorted.{IsPermutation}
use Rattle.rohc_checks.specs.Division.{check}
use Rattle.rohc_header.specs.declared.fields.Static.{Static}
use Rattle.rohc_header.specs.declared.fields.Dynamic.{Dynamic}
use Rattle.rohc_header.specs.Original.{IsOriginal, octet, word, quad, flag, addresses}
use Rattle.rohc_header.specs.Check.{static_octets, dynamic_octets, all_ones, header_check}

-- fields and a payload length have at most one original header
abbrev pub HasOneHeader : Type 0
HasOneHeader = (fixed : Static) (moving : Dynamic) (payload_len : ℕ) (a b : List ℕ) →
    IsOriginal fixed moving payload_len a → IsOriginal fixed moving payload_len b → a ≡ b

-- a header and its payload have at most 65,535 octets
abbrev pub FitsPacket : Type 0
FitsPacket = (fixed : Static) (moving : Dynamic) (payload_len : ℕ) (octets : List ℕ) →
    IsOriginal fixed moving payload_len octets → length octets + payload_len ≤ 65535

-- the static and the dynamic octets together are all forty, each once
abbrev pub SplitsWhole : Type 0
SplitsWhole = (octets : List ℕ) → length octets ≡ 40 →
    IsPermutation octets (static_octets octets ++ dynamic_octets octets)

-- the check of a header is that of its dynamic octets, from the register after its static octets
abbrev pub ChecksInParts : Type 0
ChecksInParts = (poly : List Bool) (octets : List ℕ) →
    check poly (check poly (all_ones poly) (static_octets octets)) (dynamic_octets octets) ≡ header_check poly
    octets

-- the octets of the static fields, and of TOS, DF, TTL, P and X
abbrev pub static_fields : (fixed : Static) (moving : Dynamic) → List ℕ
static_fields fixed moving =
    octet 0x45 ++ octet moving.tos
    ++ octet (flag moving.df 0x40) ++ octet 0 ++ octet moving.ttl ++ octet 17
    ++ addresses fixed
    ++ word fixed.source_port ++ word fixed.destination_port
    ++ octet (0x80 + flag moving.padding 0x20 + flag moving.extension 0x10)
    ++ quad fixed.ssrc

-- these are the static octets of an original header, whatever its other fields are
abbrev pub HasStaticFields : Type 0
HasStaticFields = (fixed : Static) (moving : Dynamic) (payload_len : ℕ) (octets : List ℕ) →
    length fixed.source ≡ 4 → length fixed.destination ≡ 4 →
    IsOriginal fixed moving payload_len octets → static_octets octets ≡ static_fields fixed moving

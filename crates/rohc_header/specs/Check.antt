-- The checks of a header: the split of its octets, and the division over them (RFC 3095 5.9).
use Rattle.std.specs.Prelude.{ℕ, ◌+◌, ◌-◌, ◌^◌, Bool, List, [], ◌∷◌, ◌++◌, take, drop}
use Rattle.std.specs.List.{flat_map}
use Rattle.rohc_checks.specs.Division.{check, degree}

-- ---- The split of a header's octets for its checks
--
-- By RFC 3095 5.9.2 a check covers the static octets first and then the dynamic ones. Which octets count as
-- static is this project's own table, and not the RFC's.

-- a range of octets of a part, from a first to a last one, where the part's first octet is 1
pub record Places : Type 0 where
  pub first : ℕ
  pub last : ℕ

abbrev pub places : ℕ → ℕ → Places
places first last = record { first = first; last = last }

-- a part of a header: how many octets of the header precede it, and which of its octets are static and which
-- dynamic
pub record Part : Type 0 where
  pub before : ℕ
  pub static : List Places
  pub dynamic : List Places

abbrev pub ip : Part
ip = record {
  before = 0;
  static = places 1 2 ∷ places 7 10 ∷ places 13 20 ∷ [];
  dynamic = places 3 6 ∷ places 11 12 ∷ [];
}

abbrev pub udp : Part
udp = record {
  before = 20;
  static = places 1 4 ∷ [];
  dynamic = places 5 8 ∷ [];
}

abbrev pub rtp : Part
rtp = record {
  before = 28;
  static = places 1 1 ∷ places 9 12 ∷ [];
  dynamic = places 2 8 ∷ [];
}

abbrev pub parts : List Part
parts = ip ∷ udp ∷ rtp ∷ []

-- the octets of a header at these places of a part
abbrev pub octets_at : (octets : List ℕ) (before : ℕ) (all : List Places) → List ℕ
octets_at octets before all =
    flat_map (λ at. take (at.last + 1 - at.first) (drop (before + at.first - 1) octets)) all

-- a header's static octets, in order
unfoldable pub static_octets : List ℕ → List ℕ
static_octets octets = flat_map (λ part. octets_at octets part.before part.static) parts

-- the dynamic octets of a header, in order
unfoldable pub dynamic_octets : List ℕ → List ℕ
dynamic_octets octets = flat_map (λ part. octets_at octets part.before part.dynamic) parts

-- ---- The check of a header: from all ones, over its static octets and then its dynamic ones

abbrev pub all_ones : (poly : List Bool) → ℕ
all_ones poly = 2 ^ degree poly - 1

abbrev pub header_check : (poly : List Bool) (octets : List ℕ) → ℕ
header_check poly octets = check poly (all_ones poly) (static_octets octets ++ dynamic_octets octets)

-- W-LSB: the value that bits mean against a reference (RFC 3095 4.5.1).
use Rattle.std.specs.Prelude.{◌≡◌, ℕ, ◌-◌, ◌^◌, ◌<◌, List, All, ℤ, pos, ◌+ℤ◌, ◌-ℤ◌, ◌≤ℤ◌, unsigned_abs, nat_le, if◌then◌else◌}
use Rattle.std.specs.Int.{int_rem_euclid}
use Rattle.rohc_bits.specs.LowBits.{LowBits}

-- v modulo m, from 0 to m - 1 even if v is negative: -1 modulo 16 is 15
abbrev pub modulo : ℤ → ℕ → ℕ
modulo v m = unsigned_abs (int_rem_euclid v (pos m))

-- The value v that k bits mean against a reference: v lies in the interpretation interval [reference - p,
-- reference + 2^k - 1 - p], and the bits are its low k bits (RFC 3095 4.5.1). Reference and value are whole
-- numbers without limits.
pub record LiesInInterval (reference : ℤ) (bits : LowBits) (p : ℕ) (v : ℤ) : Type 0 where
  pub least : (reference -ℤ pos p) ≤ℤ v
  pub greatest : v ≤ℤ (reference +ℤ pos (2 ^ bits.count) -ℤ pos 1 -ℤ pos p)
  pub low : modulo v (2 ^ bits.count) ≡ bits.value

-- p for k bits of a sequence number (RFC 3095 5.7)
abbrev pub p_of_sn : ℕ → ℕ
p_of_sn k = if nat_le k 4 then 1 else 2 ^ (k - 5) - 1

-- p for k bits of a timestamp (RFC 3095 5.7)
abbrev pub p_of_ts : ℕ → ℕ
p_of_ts k = 2 ^ (k - 2) - 1

-- Exactly one value has P.
abbrev pub ExactlyOne : {A : Type 0} (P : A → Type 0) → Type 0
ExactlyOne {A} P = (one : A) × P one × ((other : A) → P other → other ≡ one)

-- Bits mean exactly one value.
abbrev pub OneValue : Type 0
OneValue = (reference : ℤ) (bits : LowBits) (p : ℕ) → bits.value < 2 ^ bits.count →
    ExactlyOne (LiesInInterval reference bits p)

-- If bits mean v against the least and against the greatest of some references, they mean v against each of
-- them. The writer of a W-LSB window relies on this (RFC 3095 4.5.2).
abbrev pub WindowAgrees : Type 0
WindowAgrees = (references : List ℤ) (least greatest : ℤ) (bits : LowBits) (p : ℕ) (v : ℤ) →
    All (λ reference. least ≤ℤ reference) references →
    All (λ reference. reference ≤ℤ greatest) references →
    LiesInInterval least bits p v →
    LiesInInterval greatest bits p v →
    All (λ reference. LiesInInterval reference bits p v) references

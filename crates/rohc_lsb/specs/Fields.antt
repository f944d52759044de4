-- What bits mean: a sequence number, a timestamp, an Identification (RFC 3095 4.5).
use Rattle.std.specs.Prelude.{◌≡◌, ℕ, ◌+◌, ◌*◌, ◌/◌, ◌%◌, ◌^◌, ◌<◌, Bool, true, false, Option, Some, None, IfSome, ℤ, pos, ◌+ℤ◌, ◌-ℤ◌, ◌*ℤ◌}
use Rattle.rohc_bits.specs.LowBits.{LowBits}
use Rattle.rohc_lsb.specs.Interval.{ExactlyOne, LiesInInterval, modulo, p_of_sn, p_of_ts}

-- ---- The sequence number sn of a header (RFC 3095 4.5.1)

-- The bits mean a number that is this many steps after the reference's number. They mean it against the
-- reference's number moved on by the shift. SN is its low 16 bits.
abbrev pub AgreesInSn : (reference shift : ℕ) (bits : LowBits) (sn : ℕ) (steps : ℤ) → Type 0
AgreesInSn reference shift bits sn steps =
    LiesInInterval (pos (reference + shift)) bits (p_of_sn bits.count) (pos reference +ℤ steps) ×
    (sn ≡ modulo (pos reference +ℤ steps) (2 ^ 16))

-- Bits mean exactly one SN, at exactly one number of steps after the reference's.
abbrev pub OneSn : Type 0
OneSn = (reference shift : ℕ) (bits : LowBits) → bits.value < 2 ^ bits.count →
    ExactlyOne (λ (number : ℕ × ℤ). AgreesInSn reference shift bits number.0 number.1)

-- ---- The timestamp ts of a header (RFC 3095 4.5.3)

-- Without bits, the timestamp is the reference's plus one stride for each step of the sequence number.
abbrev pub AgreesWithoutBits : (reference : ℕ) (stride : Option ℕ) (steps : ℤ) (ts : ℕ) → Type 0
AgreesWithoutBits reference None steps ts = ts ≡ reference
AgreesWithoutBits reference (Some stride) steps ts =
    ts ≡ modulo (pos reference +ℤ steps *ℤ pos stride) (2 ^ 32)

-- Scaled bits mean a value v of TS_SCALED, and TS is TS_SCALED * TS_STRIDE + TS_OFFSET. The reference's
-- TS_SCALED and TS_OFFSET are the quotient and the remainder of its timestamp by the stride.
abbrev pub AgreesByScaledBits : (reference stride : ℕ) (bits : LowBits) (ts : ℕ) → Type 0
AgreesByScaledBits reference stride bits ts =
    (v : ℤ) × LiesInInterval (pos (reference / stride)) bits (p_of_ts bits.count) v ×
    (ts ≡ modulo (v *ℤ pos stride +ℤ pos (reference % stride)) (2 ^ 32))

-- Unscaled bits mean a value v of TS itself.
abbrev pub AgreesByUnscaledBits : (reference : ℕ) (bits : LowBits) (ts : ℕ) → Type 0
AgreesByUnscaledBits reference bits ts =
    (v : ℤ) × LiesInInterval (pos reference) bits (p_of_ts bits.count) v × (ts ≡ modulo v (2 ^ 32))

-- Exactly one timestamp agrees, in each of the three cases.
pub record OneTimestamp : Type 0 where
  pub without_bits : (reference : ℕ) (stride : Option ℕ) (steps : ℤ) →
      ExactlyOne (AgreesWithoutBits reference stride steps)
  pub scaled : (reference stride : ℕ) (bits : LowBits) → bits.value < 2 ^ bits.count →
      ExactlyOne (AgreesByScaledBits reference stride bits)
  pub unscaled : (reference : ℕ) (bits : LowBits) → bits.value < 2 ^ bits.count →
      ExactlyOne (AgreesByUnscaledBits reference bits)

-- ---- The Identification of a header (RFC 3095 4.5.5)

-- an Identification in network byte order; its two octets are swapped if NBO is 0
abbrev pub in_network_order : (nbo : Bool) (id : ℕ) → ℕ
in_network_order true id = id
in_network_order false id = id % 256 * 256 + id / 256

-- Offset = IP-ID - SN
abbrev pub offset_of : (nbo : Bool) (sn id : ℕ) → ℕ
offset_of nbo sn id = modulo (pos (in_network_order nbo id) -ℤ pos sn) (2 ^ 16)

-- Without bits, the offset is the reference's. With bits, it is the value that they mean against the
-- reference's offset, with p = 0.
abbrev pub AgreesInOffset : (reference : ℕ) (bits : Option LowBits) (offset : ℕ) → Type 0
AgreesInOffset reference None offset = offset ≡ reference
AgreesInOffset reference (Some bits) offset =
    (v : ℤ) × LiesInInterval (pos reference) bits 0 v × (offset ≡ modulo v (2 ^ 16))

-- Exactly one Identification of 16 bits agrees.
abbrev pub OneIdentification : Type 0
OneIdentification = (nbo : Bool) (reference_sn reference_id sn : ℕ) (bits : Option LowBits) →
    IfSome bits (λ b. b.value < 2 ^ b.count) →
    ExactlyOne (λ id. (id < 2 ^ 16) ×
    AgreesInOffset (offset_of nbo reference_sn reference_id) bits (offset_of nbo sn id))

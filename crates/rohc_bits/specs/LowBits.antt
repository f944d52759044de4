-- Least significant bits of a field, as plain data.
use Rattle.std.specs.Prelude.{ℕ}
use Rattle.rohc_bits.specs.declared.bits.Bits.{Bits}

-- Some least significant bits of a field: how many, and the number that they stand for (RFC 3095 4.5.1).
pub record LowBits : Type 0 where
  pub count : ℕ
  pub value : ℕ

-- the `Bits` of the code as such bits
abbrev pub low_bits : Bits → LowBits
low_bits b = record { count = b.count; value = b.value }

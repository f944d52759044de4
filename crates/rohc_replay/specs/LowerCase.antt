-- The bit that tells the digits of lower case from those of upper case. Words: has_lower_bit.
use Rattle.std.specs.Prelude.{ℕ, Bool, ◌==◌}
use Rattle.std.specs.Int.Bits.{bit_and}

-- the bit that `0` to `9` and `a` to `f` have, and `A` to `F` don't
abbrev pub has_lower_bit : ℕ → Bool
has_lower_bit octet = bit_and 32 octet == 32

-- Bits of numbers.
use Rattle.std.specs.Prelude.{ℕ, ◌+◌, ◌*◌, ◌/◌, ◌%◌, ◌^◌, min, Option, Some, None}
use Rattle.rohc_bits.specs.LowBits.{LowBits}

-- bits followed by less significant ones; of more than 32 the low 32 are kept
abbrev pub behind : LowBits → LowBits → LowBits
behind low high =
    record {
      count = min (high.count + low.count) 32;
      value =
          (high.value * 2 ^ low.count + low.value) % 2 ^ 32;
    }

-- more bits after those that are said already, if any are
abbrev pub and_bits : Option LowBits → LowBits → Option LowBits
and_bits None more = Some more
and_bits (Some said) more = Some (behind more said)

-- the bits of a number that precede its least significant `places` bits
abbrev pub slice : ℕ → ℕ → ℕ → LowBits
slice n places width = record { count = width; value = n / 2 ^ places % 2 ^ width }

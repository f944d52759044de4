-- The moments of times, as they are given. Words: moment_of; is_within.
use Rattle.std.specs.Prelude.{ℕ, ◌+◌, ◌*◌, ◌-◌, ◌%◌, ◌^◌, min, Bool, true, false, nat_le, ◌&&◌}
use Rattle.rohctl_captures.specs.declared.narrow.Time.{Time}
use Rattle.rohctl_captures.specs.declared.narrow.Time.TheVariants.{Whole, Exact, OfDay}

-- a number, or the greatest of 64 bits if it is above that
abbrev pub at_most : ℕ → ℕ
at_most n = min n (2 ^ 64 - 1)

-- Milliseconds. A whole number is milliseconds in a script, and seconds in a capture; a time of day is of
-- the day of the first packet.
abbrev pub moment_of : Time → Bool → ℕ → ℕ
moment_of (Whole number) true first = at_most (number * 1000)
moment_of (Whole number) false first = number
moment_of (Exact millis) is_capture first = millis
moment_of (OfDay millis) is_capture first = at_most (first - first % 86400000 + millis)

-- neither before the first of these nor after the last
abbrev pub is_within : ℕ → ℕ → ℕ → Bool
is_within first last number = nat_le first number && nat_le number last

-- The last n - 1 outcomes in a window, as digits in base 2, 1 for a failure. Words: is_filled;
-- outcomes_after.
use Rattle.std.specs.Prelude.{ℕ, ◌+◌, ◌*◌, ◌-◌, ◌%◌, ◌^◌, Bool, nat_le, count_ones, if◌then◌else◌}

-- with one failure more, k of the last n outcomes are failures
abbrev pub is_filled : ℕ → ℕ → Bool
is_filled k digits = nat_le k (count_ones digits + 1)

-- the last n - 1 outcomes after one more
abbrev pub outcomes_after : ℕ → ℕ → Bool → ℕ
outcomes_after n digits failed = (digits * 2 + (if failed then 1 else 0)) % 2 ^ (n - 1)

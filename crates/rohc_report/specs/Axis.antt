-- Places on a time line. Words: cell_of.
use Rattle.std.specs.Prelude.{ℕ, ◌*◌, ◌-◌, ◌/◌, ◌^◌, min, nat_eq, if◌then◌else◌}

-- The cell of a moment, of so many cells between a first moment and a last one: in proportion to the time
-- since the first; a moment outside counts as the nearer end.
abbrev pub cell_of : (first last cells moment : ℕ) → ℕ
cell_of first last cells moment =
    if nat_eq (last - first) 0 then 0
    else min (min (moment - first) (last - first) * (cells - 1)) (2 ^ 64 - 1) / (last - first)

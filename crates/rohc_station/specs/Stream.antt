-- Lines that wait for a reader. Words: has_room; put_items, left_after a line.
use Rattle.std.specs.Prelude.{ℕ, ◌+◌, ◌++◌, List, length, Bool, nat_le, if◌then◌else◌}
use Rattle.rohc_links.specs.Limits.{counted}

-- a line has room behind the octets that wait
abbrev pub has_room : (line waiting : List ℕ) → (room : ℕ) → Bool
has_room line waiting room = nat_le (length waiting + length line) room

-- a line waits behind them if it has room
abbrev pub put_items : (line waiting : List ℕ) → (room : ℕ) → List ℕ
put_items line waiting room = if has_room line waiting room then waiting ++ line else waiting

-- otherwise it is left out, and counted
abbrev pub left_after : (line waiting : List ℕ) → (room left : ℕ) → ℕ
left_after line waiting room left = if has_room line waiting room then left else counted left 1

-- The timed form of an arrival. Words: timed.
use Rattle.std.specs.Prelude.{ℕ, List, ◌++◌}
use Rattle.std.specs.Int.{w16, w64, to_be_bytes}

-- the link's number in two octets, the moment in eight, both most significant octet first, and the packet
abbrev pub timed : ℕ → ℕ → List ℕ → List ℕ
timed link moment packet = to_be_bytes w16 link ++ to_be_bytes w64 moment ++ packet

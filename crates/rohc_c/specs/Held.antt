-- What a handle owns.
use Rattle.std.specs.Prelude.{Option, Some, None}
use base.Fml.{Fml, ftrue}
use denote.RawPtr.{Ptr}
use denote.RattleType.{RattleType}
use Rattle.libc.specs.Heap.{chunk}
use Rattle.std.specs.Box.Ownership.{box_owns}

-- the block of a boxed value at this address, or nothing
abbrev pub held : (R : RattleType) → Ptr → Option R.Denot → Fml
held R at None = ftrue
held R at (Some value) = box_owns (λ layout p. chunk layout p) R at value

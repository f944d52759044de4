use Rattle.std.proofs.Common.{take}
use Rattle.std.specs.Prelude.{All}
use Rattle.rohc_c.specs.Settings.{HasFewRanges}
use Rattle.rohc_c.proofs.setup.judge.Given as goal

-- the links judged so far count few ranges
abbrev pub invariant-loop-index : goal.invariant-loop-index
invariant-loop-index l = All HasFewRanges (take l.index l.links)

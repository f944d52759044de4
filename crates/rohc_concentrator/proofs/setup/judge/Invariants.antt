use Rattle.std.proofs.Common.{take}
use Rattle.rohc_concentrator.specs.Setup.{AreSound}
use Rattle.rohc_concentrator.proofs.setup.judge.Given as goal

-- the entries judged so far are sound
abbrev pub invariant-loop-index : goal.invariant-loop-index
invariant-loop-index l = AreSound (take l.index l.settings)

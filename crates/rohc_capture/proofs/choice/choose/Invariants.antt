use Rattle.std.proofs.Common.{◌≡◌, drop}
use Rattle.rohc_capture.specs.Carried.{load_of}
use Rattle.rohc_capture.specs.Choice.{chosen}
use Rattle.rohc_capture.proofs.choice.choose.Given as goal

-- no rule before speaks of the frame
abbrev pub invariant-loop-rule : goal.invariant-loop-rule
invariant-loop-rule l = chosen (drop l.rule-index l.rules) (load_of l.carried) ≡ chosen l.rules (load_of l.carried)

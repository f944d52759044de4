use Rattle.std.proofs.Common.{◌≡◌, drop}
use Rattle.rohc_concentrator.specs.Setting.{mode_in}
use Rattle.rohc_concentrator.proofs.setting.mode_in.Given as goal

abbrev pub invariant-loop-range : goal.invariant-loop-range
invariant-loop-range l = mode_in l.fn.cid (drop l.range-index l.ranges) ≡ mode_in l.fn.cid l.fn.ranges

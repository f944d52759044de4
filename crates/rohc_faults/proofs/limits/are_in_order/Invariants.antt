use Rattle.std.proofs.Common.{◌≡◌, drop}
use Rattle.rohc_concentrator.specs.Setting.{are_in_order}
use Rattle.rohc_faults.proofs.limits.are_in_order.Given as goal

abbrev pub invariant-loop-range : goal.invariant-loop-range
invariant-loop-range l = are_in_order l.least l.max_cid (drop l.range-index l.ranges) ≡ are_in_order 0 l.fn.max_cid l.fn.ranges

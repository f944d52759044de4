use Rattle.std.proofs.Common.{◌≡◌, length}
use Rattle.rohc_frame.specs.Items.{after_items}
use Rattle.rohc_frame.proofs.items.after_items.Given as goal

abbrev pub invariant-loop-behind : goal.invariant-loop-behind
invariant-loop-behind l = after_items l.rest ≡ after_items l.octets

abbrev pub decreases-loop-behind : goal.decreases-loop-behind
decreases-loop-behind l = length l.rest

use Rattle.std.proofs.Common.{◌≡◌, length}
use Rattle.rohc_frame.specs.Items.{elements_in}
use Rattle.rohc_frame.proofs.items.split_element.Given as goal

abbrev pub invariant-loop-item : goal.invariant-loop-item
invariant-loop-item l = elements_in l.rest ≡ elements_in l.octets

abbrev pub decreases-loop-item : goal.decreases-loop-item
decreases-loop-item l = length l.rest

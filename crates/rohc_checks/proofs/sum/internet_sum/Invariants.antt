-- The total stands as one word before those that are left.
use Rattle.std.proofs.Common.{◌≡◌, ◌^◌, ◌<◌, ◌∷◌, length}
use Rattle.rohc_checks.specs.Sum.{header_sum, words}
use Rattle.rohc_checks.proofs.sum.internet_sum.Given as goal

abbrev pub invariant-loop-left : goal.invariant-loop-left
invariant-loop-left l = record {
  fits : l.total < 2 ^ 16;
  whole : header_sum (l.total ∷ words l.left) ≡ header_sum (words l.octets);
}

abbrev pub decreases-loop-left : goal.decreases-loop-left
decreases-loop-left l = length l.left

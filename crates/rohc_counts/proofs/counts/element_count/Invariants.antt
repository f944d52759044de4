use Rattle.std.proofs.Common.{◌≡◌, ◌<◌, ◌^◌, length}
use Rattle.rohc_frame.specs.Reading.{elements_of}
use Rattle.rohc_counts.specs.Counted.{counted}
use Rattle.rohc_counts.proofs.counts.element_count.Given as goal

-- the elements that are left are still to be counted
abbrev pub invariant-loop : goal.invariant-loop
invariant-loop l = record {
  small : l.count < 2 ^ 64;
  left : counted l.count (length (elements_of l.iterator')) ≡ counted 0 (length (elements_of l.fn.elements));
}

use Rattle.std.proofs.Common.{◌≡◌, ◌<◌, ◌^◌, length}
use Rattle.rohc_frame.specs.Reading.{elements_of}
use Rattle.rohc_links.specs.Limits.{counted}
use Rattle.rohc_serve.proofs.tally.counted_on.Given as goal

-- the elements that are left are still to be counted
abbrev pub invariant-loop : goal.invariant-loop
invariant-loop l = record {
  small : l.count < 2 ^ 64;
  left : counted l.count (length (elements_of l.iterator')) ≡ counted l.fn.count (length (elements_of l.fn.elements));
}

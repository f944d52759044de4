use Rattle.std.proofs.Common.{◌∙◌, arith, sym}
use Rattle.std.proofs.lemmas.List.{length-take-le}
use Rattle.timings.proofs.arrivals.put_head.Goals as goal

pub slice_bounds-copy_from_slice-end-then-head-eq-HEAD : goal.slice_bounds-copy_from_slice-end-then-head-eq-HEAD
slice_bounds-copy_from_slice-end-then-head-eq-HEAD c = sym (length-take-le 40 c.args.buffer.now (omega (arith, c.requires, c.if-head-eq-HEAD.true)))

pub copy_from_slice-requires : goal.copy_from_slice-requires
copy_from_slice-requires c =
    length-take-le 40 c.args.buffer.now (omega (arith, c.requires, c.if-head-eq-HEAD.true)) ∙ sym (omega (arith, c.if-head-eq-HEAD.true))

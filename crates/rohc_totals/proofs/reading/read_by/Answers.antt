use Rattle.std.proofs.Common.{◌++◌, take}
use Rattle.std.proofs.KnownBytes.{Consumes-trans}
use Rattle.rohc_totals.proofs.reading.read_by.Goals as goal

pub loop-preserved : goal.loop-preserved
loop-preserved g c =
    let before = c.loop.invariant.read in
    let got = c.in-Ok.ensures.bytes in
    record {
      short = c.in-Ok-take_all.ensures.short;
      read = (before.0 ++ take c.in-Ok.count c.read.new.buf, Consumes-trans _ _ _ _ _ before.1 got.0, c.in-Ok-take_all.ensures.stands before.0 before.2);
    }

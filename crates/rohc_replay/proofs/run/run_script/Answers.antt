use Rattle.std.proofs.Common.{[], ◌++◌, slice_range, arith}
use Rattle.std.proofs.KnownBytes.{Consumes-nil, Consumes-trans}
use Rattle.rohc_replay.proofs.StreamLemmas.{StandsInScript-first, StandsInScript-flushed}
use Rattle.rohc_replay.proofs.PieceLemmas.{whole_text, StandsInScript-kept, StandsInScript-before, StandsInScript-moved, StopsWithin-piece}
use Rattle.rohc_replay.proofs.FaultLemmas.{fails_writing}
use Rattle.rohc_replay.specs.Run.{change, Replays, WriteOrFlushFails}
use Rattle.rohc_replay.proofs.run.run_script.Goals as goal

pub loop-init : goal.loop-init
loop-init g c = record {
  kept = omega arith;
  read = ([], Consumes-nil _, rw (c.new-front.ensures.len, c.new-front.ensures.long) (StandsInScript-first _ _ c.new-counts.result c.new-counts.ensures.taken c.new-counts.ensures.tally));
}

pub returns-then-end-front-clause-whole : goal.returns-then-end-front-clause-whole
returns-then-end-front-clause-whole g c =
    let before = c.loop.invariant.read in
    let got = c.in-Ok.ensures in
    let same = c.if-end-front.true in
    whole_text _ _ _ before.0 _ _ _ (λ t. Replays (change c.args.concentrator.now (g.W.Write.contents c.args.writer.now) c.finish.new.concentrator (g.W.Write.contents c.finish.new.writer)) t c.finish.new.counts.tally) before.1 got.read same (got.at_end same)
    (c.in-Ok-finish.ensures.whole c.args.concentrator.now (g.W.Write.contents c.args.writer.now) before.0 (StandsInScript-kept _ before.0 _ _ _ _ _ _ same got.kept before.2))

pub loop-preserved : goal.loop-preserved
loop-preserved g c =
    let before = c.loop.invariant.read in
    let got = c.in-Ok.ensures in
    let ran = c.in-Ok-run_lines.ensures in
    let stands = ran.stands c.args.concentrator.now (g.W.Write.contents c.args.writer.now) before.0
    (StandsInScript-before _ before.0 _ _ _ _ _ _ got.within.0 got.kept before.2) in
    record {
      kept = ran.kept;
      read = (
        before.0 ++ slice_range c.read_more.new.line c.loop.front.len c.in-Ok.end,
        Consumes-trans _ _ _ _ _ before.1 got.read,
        StandsInScript-flushed _ _ _ _ _ _ (StandsInScript-moved _ c.read_more.new.line c.move_to_front.new.line _ _ _ _ _ got.within.0 ran.used got.within.1 c.move_to_front.ensures before.0 stands) c.flush.ensures.bytes,
      );
    }

pub returns-in_default-finish-clause-fault : goal.returns-in_default-finish-clause-fault
returns-in_default-finish-clause-fault g c =
    let before = c.loop.invariant.read in
    let got = c.in-Ok.ensures in
    let same = c.if-end-front.true in
    rw c.write_fault.ensures (whole_text _ _ _ before.0 _ _ _ (λ t. WriteOrFlushFails (change c.args.concentrator.now (g.W.Write.contents c.args.writer.now) c.finish.new.concentrator (g.W.Write.contents c.finish.new.writer)) t c.finish.new.counts.answers.taken) before.1 got.read same (got.at_end same)
    (c.in_default-finish.ensures.fault c.args.concentrator.now (g.W.Write.contents c.args.writer.now) before.0 (StandsInScript-kept _ before.0 _ _ _ _ _ _ same got.kept before.2)))

pub returns-in_default-run_lines-clause-fault : goal.returns-in_default-run_lines-clause-fault
returns-in_default-run_lines-clause-fault g c =
    let before = c.loop.invariant.read in
    let got = c.in-Ok.ensures in
    let stops = c.in_default-run_lines.ensures.stops c.args.concentrator.now (g.W.Write.contents c.args.writer.now) before.0
    (StandsInScript-before _ before.0 _ _ _ _ _ _ got.within.0 got.kept before.2) in
    rw c.write_fault-in_default-run_lines.ensures (fails_writing _ _ _ _ c.run_lines.new.counts (Consumes-trans _ _ _ before.0 _ before.1 got.read)
    (StopsWithin-piece _ before.0 c.read_more.new.line _ _ c.run_lines.new.counts got.within.0 stops))

use Rattle.std.proofs.Common.{[], ◌∷◌, ◌++◌, subst}
use Rattle.std.specs.Option.{option_map}
use Rattle.std.specs.Io.KnownBytes.{append_known}
use Rattle.std.proofs.KnownBytes.{Keeps-refl}
use Rattle.rohc_capture.specs.Records.{standing}
use Rattle.rohc_capture.specs.Standing.{entry_of, frame_of, rest_of, place_of}
use Rattle.rohc_decompress.specs.Written.{work}
use Rattle.rohc_decompress.specs.Run.{how, Runs}
use Rattle.rohc_decompress.proofs.RunLemmas.{Runs-none, Runs-more, Runs-kept, led-first, led-more}
use Rattle.rohc_decompress.proofs.run.take_ahead.Goals as goal

-- other packets lie elsewhere in their frames
pub returns-then-not-is_usual : goal.returns-then-not-is_usual
returns-then-not-is_usual g c = (
  [],
  led-first c.args.capture.now.kind (place_of c.args.capture.now) (rest_of g.R.Read.remaining c.args.capture.now),
  Runs-none (how c.args.bulk.now) (work c.args.concentrator.now (append_known (g.W.Write.contents c.args.packets.now) c.args.batch.now) (g.V.Write.contents c.args.feedback.now)),
)

pub loop-init : goal.loop-init
loop-init g c = (
  [],
  led-first c.args.capture.now.kind (place_of c.args.capture.now) (rest_of g.R.Read.remaining c.args.capture.now),
  Runs-none (how c.args.bulk.now) (work c.args.concentrator.now (append_known (g.W.Write.contents c.args.packets.now) c.args.batch.now) (g.V.Write.contents c.args.feedback.now)),
)

pub loop-preserved : goal.loop-preserved
loop-preserved g c =
    let rest = rest_of g.R.Read.remaining in
    let first = c.args.capture.now in
    let s = option_map (standing first.kind (place_of first)) (rest first) in
    let here = c.loop.capture in
    let next = c.next_ahead.new.self in
    let i = c.loop.invariant in
    let how_run = how c.args.bulk.now in
    let r = c.in-Some.record in
    let e = entry_of r (frame_of next) in
    let old = work c.args.concentrator.now (append_known (g.W.Write.contents c.args.packets.now) c.args.batch.now) (g.V.Write.contents c.args.feedback.now) in
    let mid = work c.loop.concentrator (append_known (g.W.Write.contents c.loop.packets) c.loop.batch) (g.V.Write.contents c.loop.feedback) in
    let took = work c.take_frame.new.concentrator (append_known (g.W.Write.contents c.take_frame.new.packets) c.take_frame.new.batch) (g.V.Write.contents c.take_frame.new.feedback) in
    let read = c.in-Some.ensures.some in
    let turn = subst (λ f. Runs how_run (entry_of r f ∷ []) mid took) c.frame-frame.ensures c.in-Ok.ensures in
    let runs = Runs-more how_run i.0 (e ∷ []) old mid took i.2 turn in
    let poured = append_known (g.W.Write.contents c.pour_piece.new.writer) c.pour_piece.new.self in (
      i.0 ++ e ∷ [],
      led-more s i.0 here.kind next.kind (place_of here) (place_of next) (rest here) (rest next) r (frame_of next) i.1 read,
      Runs-kept how_run (i.0 ++ e ∷ []) old took poured took.feedback runs c.in-Ok-pour_piece.ensures.kept (Keeps-refl took.feedback),
    )

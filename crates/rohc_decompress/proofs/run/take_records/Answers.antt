use Rattle.std.proofs.Common.{◌≡◌, [], ◌∷◌, ◌++◌, Some, None, Ok, Err, IfSome, refl, subst}
use Rattle.std.specs.Option.{option_map}
use Rattle.std.specs.Io.KnownBytes.{append_known, Keeps}
use Rattle.rohc_capture.specs.Records.{standing}
use Rattle.rohc_capture.specs.Standing.{entry_of, frame_of, rest_of, place_of, ReadsOn}
use Rattle.rohc_decompress.specs.Written.{work}
use Rattle.rohc_decompress.specs.Run.{how, Runs, OfReading}
use Rattle.rohc_decompress.proofs.RunLemmas.{Runs-none, Runs-more, Runs-kept, led-first, led-more, led-append, led-end, stops-at, ends_well, breaks_off}
use Rattle.rohc_decompress.proofs.run.take_records.Goals as goal

pub loop-init : goal.loop-init
loop-init g c = (
  [],
  led-first c.args.capture.now.kind (place_of c.args.capture.now) (rest_of g.R.Read.remaining c.args.capture.now),
  Runs-none (how c.args.bulk.now) (work c.args.concentrator.now (append_known (g.W.Write.contents c.args.packets.now) c.args.batch.now) (g.V.Write.contents c.args.feedback.now)),
)

pub returns-in-Ok-None-clause-whole : goal.returns-in-Ok-None-clause-whole
returns-in-Ok-None-clause-whole g c =
    let rest = rest_of g.R.Read.remaining in
    let first = c.args.capture.now in
    let s = option_map (standing first.kind (place_of first)) (rest first) in
    let here = c.loop.capture in
    let next = c.read_on.new.capture in
    let i = c.loop.invariant in
    let how_run = how c.args.bulk.now in
    let old = work c.args.concentrator.now (append_known (g.W.Write.contents c.args.packets.now) c.args.batch.now) (g.V.Write.contents c.args.feedback.now) in
    let new = work c.loop.concentrator (append_known (g.W.Write.contents c.loop.packets) c.loop.batch) (g.V.Write.contents c.loop.feedback) in
    let packets = append_known (g.W.Write.contents c.read_on.new.packets) c.read_on.new.batch in
    let feedback = g.V.Write.contents c.read_on.new.feedback in
    let is : c.read_on.result ≡ Ok None = cc (c.in-Ok-None.is, c.in-Ok-None.field-0-is) in
    let read = subst (OfReading (λ r. IfSome (rest here) (λ text. ReadsOn (standing here.kind (place_of here) text) r (frame_of next) next.kind (place_of next) (rest next)))) is c.read_on.ensures.reads in
    let p = subst (OfReading (λ r. Keeps new.packets packets)) is c.read_on.ensures.packets in
    let q = subst (OfReading (λ r. Keeps new.feedback feedback)) is c.read_on.ensures.feedback in
    ends_well how_run s i.0 old (work c.loop.concentrator packets feedback) (Ok tt)
    (led-end s i.0 here.kind next.kind (place_of here) (place_of next) (rest here) (rest next) (frame_of next) i.1 read)
    (Runs-kept how_run i.0 old new packets feedback i.2 p q)

pub returns-in-Err-clause-fault : goal.returns-in-Err-clause-fault
returns-in-Err-clause-fault g c =
    let rest = rest_of g.R.Read.remaining in
    let first = c.args.capture.now in
    let s = option_map (standing first.kind (place_of first)) (rest first) in
    let here = c.loop.capture in
    let next = c.read_on.new.capture in
    let i = c.loop.invariant in
    let fault = c.in-Err.fault in
    let old = work c.args.concentrator.now (append_known (g.W.Write.contents c.args.packets.now) c.args.batch.now) (g.V.Write.contents c.args.feedback.now) in
    let new = work c.loop.concentrator (append_known (g.W.Write.contents c.loop.packets) c.loop.batch) (g.V.Write.contents c.loop.feedback) in
    let packets = append_known (g.W.Write.contents c.read_on.new.packets) c.read_on.new.batch in
    let feedback = g.V.Write.contents c.read_on.new.feedback in
    let is : c.read_on.result ≡ Err fault = cc (c.in-Err.is) in
    stops-at (how c.args.bulk.now) s i.0 here.kind next.kind (place_of here) (place_of next) (rest here) (rest next) (frame_of next) fault old new packets feedback i.1 i.2
    (subst (OfReading (λ r. IfSome (rest here) (λ text. ReadsOn (standing here.kind (place_of here) text) r (frame_of next) next.kind (place_of next) (rest next)))) is c.read_on.ensures.reads)
    (subst (OfReading (λ r. Keeps new.packets packets)) is c.read_on.ensures.packets)
    (subst (OfReading (λ r. Keeps new.feedback feedback)) is c.read_on.ensures.feedback)

pub loop-preserved : goal.loop-preserved
loop-preserved g c =
    let rest = rest_of g.R.Read.remaining in
    let first = c.args.capture.now in
    let s = option_map (standing first.kind (place_of first)) (rest first) in
    let here = c.loop.capture in
    let next = c.read_on.new.capture in
    let i = c.loop.invariant in
    let how_run = how c.args.bulk.now in
    let r = c.in-Ok-Some.record in
    let e = entry_of r (frame_of next) in
    let old = work c.args.concentrator.now (append_known (g.W.Write.contents c.args.packets.now) c.args.batch.now) (g.V.Write.contents c.args.feedback.now) in
    let mid = work c.loop.concentrator (append_known (g.W.Write.contents c.loop.packets) c.loop.batch) (g.V.Write.contents c.loop.feedback) in
    let packets = append_known (g.W.Write.contents c.read_on.new.packets) c.read_on.new.batch in
    let feedback = g.V.Write.contents c.read_on.new.feedback in
    let begun = work c.loop.concentrator packets feedback in
    let took = work c.take_any_frame.new.concentrator (append_known (g.W.Write.contents c.take_any_frame.new.packets) c.take_any_frame.new.batch) (g.V.Write.contents c.take_any_frame.new.feedback) in
    let is : c.read_on.result ≡ Ok (Some r) = cc (c.in-Ok-Some.is, c.in-Ok-Some.field-0-is) in
    let read = subst (OfReading (λ r. IfSome (rest here) (λ text. ReadsOn (standing here.kind (place_of here) text) r (frame_of next) next.kind (place_of next) (rest next)))) is c.read_on.ensures.reads in
    let p = subst (OfReading (λ r. Keeps mid.packets packets)) is c.read_on.ensures.packets in
    let q = subst (OfReading (λ r. Keeps mid.feedback feedback)) is c.read_on.ensures.feedback in
    let turn = subst (λ f. Runs how_run (entry_of r f ∷ []) begun took) c.frame-frame.ensures c.in-Ok.ensures in
    let runs = Runs-more how_run i.0 (e ∷ []) old begun took (Runs-kept how_run i.0 old mid packets feedback i.2 p q) turn in
    let led = led-more s i.0 here.kind next.kind (place_of here) (place_of next) (rest here) (rest next) r (frame_of next) i.1 read in
    let ran = c.in-Ok-take_ahead.ensures in
    let end = c.take_ahead.new.capture in
    let after = work c.take_ahead.new.concentrator (append_known (g.W.Write.contents c.take_ahead.new.packets) c.take_ahead.new.batch) (g.V.Write.contents c.take_ahead.new.feedback) in (
      (i.0 ++ e ∷ []) ++ ran.0,
      led-append s (i.0 ++ e ∷ []) ran.0 next.kind end.kind (place_of next) (place_of end) (rest next) (rest end) led ran.1,
      Runs-more how_run (i.0 ++ e ∷ []) ran.0 old took after runs ran.2,
    )

pub returns-clause-fault : goal.returns-clause-fault
returns-clause-fault g c =
    let rest = rest_of g.R.Read.remaining in
    let first = c.args.capture.now in
    let s = option_map (standing first.kind (place_of first)) (rest first) in
    let here = c.loop.capture in
    let i = c.loop.invariant in
    let old = work c.args.concentrator.now (append_known (g.W.Write.contents c.args.packets.now) c.args.batch.now) (g.V.Write.contents c.args.feedback.now) in
    let new = work c.loop.concentrator (append_known (g.W.Write.contents c.loop.packets) c.loop.batch) (g.V.Write.contents c.loop.feedback) in
    (λ k. absurd (k refl), breaks_off (how c.args.bulk.now) s i.0 here.kind (place_of here) (rest here) old new i.1 i.2)

use Rattle.std.proofs.Common.{◌≡◌, ◌+◌, ◌-◌, length, arith, sym, subst, ◌∙◌, ap}
use Rattle.std.specs.List.{slice_range}
use Rattle.std.specs.Io.KnownBytes.{Keeps, prepend_known}
use Rattle.std.proofs.lemmas.List.{with_items_is}
use Rattle.rohc_capture.specs.Window.{text_in}
use Rattle.rohc_capture.proofs.WindowLemmas.{text-read}
use Rattle.rohc_capture.proofs.window.Window.more.Goals as goal

pub returns-in-Ok-clause-text : goal.returns-in-Ok-clause-text
returns-in-Ok-clause-text g c =
    let old = c.args.self.now in
    let w = c.make_room.new.self in
    let new = c.refill-read.new in
    let remaining = g.R.Read.remaining in
    let same : length new.octets ≡ w.octets.len = omega arith in
    let held : w.end - w.start ≡ old.end - old.start = omega (arith, c.make_room.ensures.start, c.make_room.ensures.end) in
    let whole = ap (λ r. prepend_known (slice_range w.octets.items w.start w.end) (remaining r)) c.make_room.ensures.reader
    ∙ ap (λ t. prepend_known t (remaining old.reader)) c.make_room.ensures.ahead in
    let read = text-read _ _ w.octets.items new.octets w.start w.end c.in-Ok.count
    (c.refill-read.ensures.moved ∙ ap (λ t. slice_range t w.start w.end) c.as_mut_slice.ensures.value) c.in-Ok.ensures.read in
    let counted = subst (λ n. Keeps (text_in remaining w) (prepend_known (slice_range new.octets 0 (n + c.in-Ok.count)) (remaining new.reader))) held read in
    let from-old = subst (λ t. Keeps t (prepend_known (slice_range new.octets 0 (old.end - old.start + c.in-Ok.count)) (remaining new.reader))) whole counted in
    subst (λ t. Keeps (text_in remaining old) (prepend_known (slice_range t 0 (old.end - old.start + c.in-Ok.count)) (remaining new.reader)))
    (sym (with_items_is w.octets new.octets same)) from-old

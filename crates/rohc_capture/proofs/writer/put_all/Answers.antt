use Rattle.std.proofs.Common.{◌++◌, ap, ◌∙◌, sym, length, take}
use Rattle.std.proofs.lemmas.List.{length-append}
use Rattle.rohc_capture.specs.Written.{before_frame, after_frame}
use Rattle.rohc_capture.proofs.WriterLemmas.{two_parts}
use Rattle.rohc_capture.proofs.writer.put_all.Goals as goal

pub returns-clause-put : goal.returns-clause-put
returns-clause-put c =
    let before = take c.args.used c.args.cells.now in
    let first = c.args.front.now in
    let last = c.args.rest.now in
    let size = sym (length-append first last) in
    let head = before_frame c.args.format c.args.nanos (length (first ++ last)) in
    let tail = after_frame c.args.format (length (first ++ last)) in
    let headed = take c.put_before-used.result c.put_before-used.new.cells in
    let fronted = take c.put_at-used.result c.put_at-used.new.cells in
    let filled = take c.put_few-used.result c.put_few-used.new.cells in
    let with_head = c.put_before-used.ensures.put ∙ ap (λ n. before ++ before_frame c.args.format c.args.nanos n) size in
    let with_tail = c.put_after.ensures.put ∙ ap (λ n. filled ++ after_frame c.args.format n) size in
    let frame = two_parts headed fronted filled first last c.put_at-used.ensures.put c.put_few-used.ensures.put in
    let framed = two_parts before headed filled head (first ++ last) with_head frame in
    two_parts before filled (take c.put_after.result c.put_after.new.cells) (head ++ (first ++ last)) tail framed with_tail

use Rattle.std.proofs.Common.{◌++◌, ◌+◌, ◌/◌, ◌%◌, ◌∙◌, ap, take}
use Rattle.rohc_capture.specs.Written.{quad, block_length}
use Rattle.rohc_capture.proofs.WriterLemmas.{two_parts}
use Rattle.rohc_capture.proofs.writer.put_pcapng_front.Goals as goal

pub returns-clause-put : goal.returns-clause-put
returns-clause-put c =
    let before = take c.args.used c.args.cells.now in
    let one = take c.put-used.result c.put-used.new.cells in
    let two = take c.put-used-2.result c.put-used-2.new.cells in
    let three = take c.put-used-3.result c.put-used-3.new.cells in
    let four = take c.put-used-4.result c.put-used-4.new.cells in
    let five = take c.put-used-5.result c.put-used-5.new.cells in
    let six = take c.put-used-6.result c.put-used-6.new.cells in
    let kind = quad 6 in
    let block = quad (block_length c.args.size) in
    let interface = quad 0 in
    let high = quad (c.args.nanos / 4294967296) in
    let low = quad (c.args.nanos % 4294967296) in
    let size = quad c.args.size in
    let blocks = c.put-used-2.ensures.put ∙ ap (λ m. one ++ quad (32 + c.args.size + m)) c.missing.ensures in
    let p = two_parts before one two kind block c.put-used.ensures.put blocks in
    let q = two_parts before two three (kind ++ block) interface p c.put-used-3.ensures.put in
    let r = two_parts before three four (kind ++ block ++ interface) high q c.put-used-4.ensures.put in
    let s = two_parts before four five (kind ++ block ++ interface ++ high) low r c.put-used-5.ensures.put in
    let t = two_parts before five six (kind ++ block ++ interface ++ high ++ low) size s c.put-used-6.ensures.put in
    two_parts before six (take c.put.result c.put.new.cells) (kind ++ block ++ interface ++ high ++ low ++ size) size t c.put.ensures.put

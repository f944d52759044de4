use Rattle.std.proofs.Common.{◌++◌, ◌/◌, ◌%◌, take}
use Rattle.rohc_capture.specs.Written.{quad}
use Rattle.rohc_capture.proofs.WriterLemmas.{two_parts}
use Rattle.rohc_capture.proofs.writer.put_pcap_front.Goals as goal

pub returns-clause-put : goal.returns-clause-put
returns-clause-put c =
    let before = take c.args.used c.args.cells.now in
    let one = take c.put-used.result c.put-used.new.cells in
    let two = take c.put-used-2.result c.put-used-2.new.cells in
    let three = take c.put-used-3.result c.put-used-3.new.cells in
    let second = quad (c.args.nanos / 1000000000) in
    let nano = quad (c.args.nanos % 1000000000) in
    let size = quad c.args.size in
    let p = two_parts before one two second nano c.put-used.ensures.put c.put-used-2.ensures.put in
    let q = two_parts before two three (second ++ nano) size p c.put-used-3.ensures.put in
    two_parts before three (take c.put.result c.put.new.cells) (second ++ nano ++ size) size q c.put.ensures.put

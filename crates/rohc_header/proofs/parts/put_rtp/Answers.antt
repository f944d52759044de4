use Rattle.rohc_header.proofs.InARow.{two_written, three_written}
use Rattle.rohc_header.proofs.parts.put_rtp.Goals as goal

pub returns : goal.returns
returns c =
    let first = c.push.ensures.items in
    let second = c.push-2.ensures.items in
    let flags = two_written c.args.octets.now.items _ _ _ _ (rw c.requires.prepared.rtp at first) (rw c.flag.ensures at second) in
    let numbers = three_written c.push-2.new.self.items _ _ _ _ _ _ c.put_word.ensures c.put_quad.ensures c.put_quad-2.ensures in
    two_written c.args.octets.now.items _ _ _ _ flags numbers

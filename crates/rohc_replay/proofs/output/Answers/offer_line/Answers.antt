use Rattle.std.proofs.Common.{ap, length, arith}
use Rattle.std.proofs.lemmas.List.{length-take-le}
use Rattle.rohc_replay.specs.LineText.{text_in}
use Rattle.rohc_replay.proofs.OfferLemmas.{part_of}
use Rattle.rohc_replay.proofs.output.Answers.offer_line.Goals as goal

pub returns-else-count-len : goal.returns-else-count-len
returns-else-count-len g c =
    let within = rw c.as_slice-text.ensures at c.give-count.ensures.within in
    let taken = rw c.as_slice-text.ensures at c.give-count.ensures.taken in
    let same = ap length c.as_slice-text.ensures in
    let size = length-take-le c.give-count.result (text_in c.args.self.now.line) within in
    part_of _ _ _ _ c.give-count.result (text_in c.args.self.now.line) (omega arith) (taken, omega arith)

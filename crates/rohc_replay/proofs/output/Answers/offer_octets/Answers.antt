use Rattle.std.proofs.Common.{◌+◌, ◌<◌, length, arith}
use Rattle.rohc_replay.specs.LineText.{text_in}
use Rattle.rohc_replay.proofs.WaitingLemmas.{hex_text_after}
use Rattle.rohc_replay.proofs.output.Answers.offer_octets.Goals as goal
use Rattle.rohc_replay.proofs.output.Answers.offer_octets.Goals.{else-is_empty-via-then-is_empty+else-is_empty-2, else-is_empty-via-else-is_empty}

pub returns : goal.returns
returns g c =
    let head = c.args.head.now in
    let rest = c.args.rest.now in
    let some : 0 < length head + length rest = elim c.else-is_empty.branch [
      | else-is_empty-via-then-is_empty+else-is_empty-2 w ↦ grind arith
      | else-is_empty-via-else-is_empty w ↦ grind arith
    ] in
    rw (hex_text_after (text_in c.args.self.now.line) head rest some) (rw c.put_hex.ensures.text at c.offer_digits.ensures)

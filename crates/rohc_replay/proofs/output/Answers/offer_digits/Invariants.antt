use Rattle.std.proofs.Common.{[], ◌∷◌, ◌++◌, ◌<◌, ◌≡◌}
use Rattle.hex.specs.Hex.{encode_lower}
use Rattle.std.specs.Slice.Iter.{chunks_rest, chunks_size}
use Rattle.rohc_replay.specs.LineText.{text_in}
use Rattle.rohc_replay.proofs.WaitingLemmas.{Waits}
use Rattle.rohc_replay.proofs.output.Answers.offer_digits.Given as goal

-- the digits of the parts so far were taken or wait
abbrev pub invariant-loop-part : goal.invariant-loop-part
invariant-loop-part g l = record {
  size : chunks_size l.part-iterator ≡ 64;
  room : l.self.line.len < 1024;
  waits : Waits (g.W.Write.contents l.initial.writer) (g.W.Write.contents l.writer) l.initial.self.taken l.self.taken
      (text_in l.initial.self.line ++ encode_lower l.octets ++ 10 ∷ []) (text_in l.self.line) (encode_lower (chunks_rest l.part-iterator) ++ 10 ∷ []);
}

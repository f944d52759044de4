use Rattle.std.proofs.Common.{rules, ◌++◌, ◌∷◌, ◌≤◌, ◌∙◌, length, [], arith}
use Rattle.hex.specs.Hex.{encode_lower}
use Rattle.rohc_replay.specs.LineText.{text_in}
use Rattle.rohc_replay.proofs.OfferLemmas.{offers_stopped}
use Rattle.rohc_replay.proofs.WaitingLemmas.{waits_first_of, waits_digits, waits_taken, waits_part, waits_offered, waits_newline}
use Rattle.rohc_replay.proofs.output.Answers.offer_digits.Goals as goal
use Rattle.rohc_replay.proofs.output.Answers.offer_digits.Goals.{then-room-part+in_ok-offer_line, else-room-part}

pub loop-part-init : goal.loop-part-init
loop-part-init g c = record {
  size = rw c.into_iter-part-iterator.ensures.into_iter_gives c.chunks-part-items.ensures.size;
  room = c.requires;
  waits = waits_first_of _ _ _ _ _ (rw c.into_iter-part-iterator.ensures.into_iter_gives c.chunks-part-items.ensures.rest);
}

pub returns-in_err-offer_line : goal.returns-in_err-offer_line
returns-in_err-offer_line g c =
    offers_stopped _ _ _ _ _ _ c.from_residual.ensures.0
    (waits_part _ _ _ _ _ _ (text_in c.args.self.now.line ++ encode_lower c.args.octets.now ++ 10 ∷ []) _ _ c.loop-part.invariant.waits c.in_err-offer_line.ensures)

pub loop-part-preserved : goal.loop-part-preserved
loop-part-preserved g c =
    let part = c.in-Some.part.now in
    let cut = c.in-Some.ensures.steps.1 in
    let few : length part ≤ 64 = omega (arith, cut.1, c.loop-part.invariant.size) in
    record {
      size = c.in-Some.ensures.steps.0 ∙ c.loop-part.invariant.size;
      room = elim c.if-room-part.branch [
        | then-room-part+in_ok-offer_line w ↦
            let none = w.clear.ensures.len in
            search rules
        | else-room-part w ↦
            search rules
      ];
      waits = elim c.if-room-part.branch [
        | then-room-part+in_ok-offer_line w ↦
            let taken = waits_taken _ _ _ _ _ _ (text_in c.args.self.now.line ++ encode_lower c.args.octets.now ++ 10 ∷ []) _ _ c.loop-part.invariant.waits w.in_ok-offer_line.ensures in
            rw (w.writer-is, w.self-is)
            (waits_digits _ _ _ _ (text_in c.args.self.now.line ++ encode_lower c.args.octets.now ++ 10 ∷ []) [] _ _ part _ cut.0 (rw (w.self-is, w.clear.ensures.text) at c.put_hex.ensures.text) taken)
        | else-room-part w ↦
            rw (w.writer-is, w.self-is) (waits_digits _ _ _ _ (text_in c.args.self.now.line ++ encode_lower c.args.octets.now ++ 10 ∷ []) _ _ _ part _ cut.0 (rw w.self-is at c.put_hex.ensures.text) c.loop-part.invariant.waits)
      ];
    }

pub returns : goal.returns
returns g c =
    waits_offered _ _ _ _ _ _ (text_in c.args.self.now.line ++ encode_lower c.args.octets.now ++ 10 ∷ []) _ _
    (waits_newline _ _ _ _ (text_in c.args.self.now.line ++ encode_lower c.args.octets.now ++ 10 ∷ []) _ _ c.in-None.ensures.steps.1.0 c.loop-part.invariant.waits)
    (rw c.put.ensures.text at c.offer_line-2.ensures)

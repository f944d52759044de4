use Rattle.std.proofs.Common.{map}
use Rattle.rohc_frame.specs.Reading.{elements_of}
use Rattle.rohc_replay.specs.AnswerLines.{relay_line, text_of}
use Rattle.rohc_replay.proofs.OfferLemmas.{TakesFront}
use Rattle.rohc_replay.proofs.output.Answers.offer_relays.Given as goal

-- the lines of a front of the elements were taken
abbrev pub invariant-loop-feedback : goal.invariant-loop-feedback
invariant-loop-feedback g l =
    TakesFront (g.W.Write.contents l.initial.writer) (g.W.Write.contents l.writer) l.initial.self.taken l.self.taken
    (text_of (map (relay_line l.link) (elements_of l.initial.relayed))) (text_of (map (relay_line l.link) (elements_of l.feedback-iterator)))

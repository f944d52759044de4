use Rattle.rohc_frame.specs.Reading.{elements_of}
use Rattle.rohc_serve.proofs.OfferLemmas.{OffersFront}
use Rattle.rohc_serve.proofs.sending.send_relayed.Given as goal

-- a front of the elements was offered
abbrev pub invariant-loop-element : goal.invariant-loop-element
invariant-loop-element g l =
    OffersFront l.number l.port (elements_of l.initial.relayed) (elements_of l.element-iterator) (g.F.Front.acts l.initial.front) (g.F.Front.acts l.front) l.failed

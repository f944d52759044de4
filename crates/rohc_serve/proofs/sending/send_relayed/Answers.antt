use Rattle.rohc_serve.proofs.OfferLemmas.{front_more}
use Rattle.rohc_serve.proofs.sending.send_relayed.Goals as goal

pub loop-element-preserved : goal.loop-element-preserved
loop-element-preserved g c =
    front_more _ _ _ _ _ _ _ _ _ _ _ _ c.loop-element.invariant c.in-Some.ensures.steps c.send_element-more.ensures c.saturating_add-failed.ensures

use Rattle.rohc_serve.proofs.OfferLemmas.{offers_all}
use Rattle.rohc_serve.proofs.sending.send_all.Goals as goal

pub returns : goal.returns
returns g c =
    offers_all _ _ _ _ _ _ _ _ _ _ _ _ c.in-Some.is c.send_relayed-relayed.ensures c.send_packet-packet.ensures c.send_feedback-feedback.ensures
    c.saturating_add.ensures c.saturating_add-2.ensures

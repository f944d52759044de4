use Rattle.rohc_serve.proofs.OfferLemmas.{offers_one}
use Rattle.rohc_serve.proofs.sending.send_octets.Goals as goal

pub returns : goal.returns
returns g c = offers_one _ _ _ _ _ _ c.send-gone.ensures.told c.counted_if.ensures

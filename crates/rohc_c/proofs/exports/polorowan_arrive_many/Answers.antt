use Rattle.std.proofs.Common.{refl, sym}
use Rattle.rohc_c.proofs.exports.polorowan_arrive_many.Goals as goal

pub returns-clause-event : goal.returns-clause-event
returns-clause-event c = λ _. record { before = c.lend.result.now; after = c.take_many.new.concentrator; was = sym c.lend.ensures.value; is = refl; holds = c.take_many.ensures }

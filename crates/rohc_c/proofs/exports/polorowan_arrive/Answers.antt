use Rattle.std.proofs.Common.{refl, sym}
use Rattle.rohc_c.proofs.exports.polorowan_arrive.Goals as goal

pub returns-then-not-has_room-clause-kept : goal.returns-then-not-has_room-clause-kept
returns-then-not-has_room-clause-kept c = λ _. (refl, refl, refl, refl, refl)

pub returns-clause-event : goal.returns-clause-event
returns-clause-event c = λ _. record { before = c.lend.result.now; after = c.take_packet.new.concentrator; was = sym c.lend.ensures.value; is = refl; holds = c.take_packet.ensures }

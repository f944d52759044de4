use Rattle.std.proofs.Common.{refl, sym}
use Rattle.rohc_concentrator.specs.Calls.{Done, NoSuchLink}
use Rattle.rohc_c.proofs.exports.polorowan_reset.Goals as goal

pub returns-in-Ok-clause-event : goal.returns-in-Ok-clause-event
returns-in-Ok-clause-event c = λ _. record { before = c.lend.result.now; after = c.reset.new.self; was = sym c.lend.ensures.value; is = refl; holds = (Done, refl, c.in-Ok.ensures.event) }

pub returns-in-Err-clause-event : goal.returns-in-Err-clause-event
returns-in-Err-clause-event c = λ _. record { before = c.lend.result.now; after = c.reset.new.self; was = sym c.lend.ensures.value; is = refl; holds = (NoSuchLink, refl, c.in-Err.ensures.event) }

use Rattle.std.proofs.Common.{◌≡◌, ℕ, arith, refl, sym}
use Rattle.rohc_concentrator.specs.Calls.{Done, NoSuchLink}
use Rattle.rohc_c.proofs.running.polorowan_forget_expired.Goals as goal

pub returns-in-Ok-clause-event : goal.returns-in-Ok-clause-event
returns-in-Ok-clause-event c = λ _. record { before = c.lend.result.now; after = c.forget_expired.new.self; was = sym c.lend.ensures.value; is = refl; holds = ((Done, refl, c.in-Ok.ensures.event), λ _. c.in-Ok.ensures.gone) }

pub returns-in-Err-clause-event : goal.returns-in-Err-clause-event
returns-in-Err-clause-event c = λ _. record { before = c.lend.result.now; after = c.forget_expired.new.self; was = sym c.lend.ensures.value; is = refl; holds = ((NoSuchLink, refl, c.in-Err.ensures.event), λ none. (let never : ◌≡◌ {A = ℕ} 2 0 = none in absurd (omega (arith, never)))) }

use Rattle.std.proofs.Common.{arith, refl, sym, subst}
use Rattle.rohc_concentrator.specs.declared.setting.LinkSetting.{LinkSetting}
use Rattle.rohc_concentrator.specs.Calls.{ChangeLink, Done, NotChanged}
use Rattle.rohc_concentrator.specs.RunsCall.{RunsCall}
use Rattle.rohc_concentrator.specs.Leaving.{HaveGone}
use Rattle.rohc_c.proofs.running.polorowan_change_link.Goals as goal

pub returns-in-Ok-clause-event : goal.returns-in-Ok-clause-event
returns-in-Ok-clause-event c = λ _ _. record { before = c.lend.result.now; after = c.change_link.new.self; was = sym c.lend.ensures.value; is = refl; holds = ((Done, refl, subst (λ (s : LinkSetting). RunsCall c.lend.result.now s.link (ChangeLink s) Done c.change_link.new.self) c.setting_of.ensures c.in-Ok.ensures.event), λ _. subst (λ (s : LinkSetting). HaveGone c.in-Ok.gone c.lend.result.now c.change_link.new.self s.link) c.setting_of.ensures c.in-Ok.ensures.gone) }

pub returns-in-Err-clause-event : goal.returns-in-Err-clause-event
returns-in-Err-clause-event c = λ _ _. record { before = c.lend.result.now; after = c.change_link.new.self; was = sym c.lend.ensures.value; is = refl; holds = ((NotChanged c.in-Err.fault, c.change_number.ensures.number, subst (λ (s : LinkSetting). RunsCall c.lend.result.now s.link (ChangeLink s) (NotChanged c.in-Err.fault) c.change_link.new.self) c.setting_of.ensures c.in-Err.ensures.event), λ none. absurd (omega (arith, none, c.change_number.ensures.some))) }

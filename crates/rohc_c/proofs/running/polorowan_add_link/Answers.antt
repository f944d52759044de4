use Rattle.std.proofs.Common.{refl, sym, subst}
use Rattle.rohc_concentrator.specs.declared.setting.LinkSetting.{LinkSetting}
use Rattle.rohc_concentrator.specs.Calls.{AddLink, Done, NotAdded}
use Rattle.rohc_concentrator.specs.RunsCall.{RunsCall}
use Rattle.rohc_c.proofs.running.polorowan_add_link.Goals as goal

pub returns-in-Ok-clause-event : goal.returns-in-Ok-clause-event
returns-in-Ok-clause-event c = λ _ _. record { before = c.lend.result.now; after = c.add_link.new.self; was = sym c.lend.ensures.value; is = refl; holds = (Done, refl, subst (λ (s : LinkSetting). RunsCall c.lend.result.now s.link (AddLink s) Done c.add_link.new.self) c.setting_of.ensures c.in-Ok.ensures.event) }

pub returns-in-Err-clause-event : goal.returns-in-Err-clause-event
returns-in-Err-clause-event c = λ _ _. record { before = c.lend.result.now; after = c.add_link.new.self; was = sym c.lend.ensures.value; is = refl; holds = (NotAdded c.in-Err.fault, c.add_number.ensures.number, subst (λ (s : LinkSetting). RunsCall c.lend.result.now s.link (AddLink s) (NotAdded c.in-Err.fault) c.add_link.new.self) c.setting_of.ensures c.in-Err.ensures.event) }

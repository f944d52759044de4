use Rattle.std.proofs.Common.{inr, subst}
use Rattle.rohc_concentrator.specs.declared.setting.LinkSetting.{LinkSetting}
use Rattle.rohc_concentrator.specs.Calls.{AddLink, NotAdded}
use Rattle.rohc_concentrator.specs.RunsCall.{RunsCall}
use Rattle.rohc_concentrator.proofs.SetupLemmas.{clone_is}
use Rattle.rohc_station.proofs.CallLemmas.{not_added}
use Rattle.rohc_station.proofs.reload.add.Goals as goal

pub returns-in-Err-clause-poor : goal.returns-in-Err-clause-poor
returns-in-Err-clause-poor c =
    let old = c.args.concentrator.now in
    let new = c.add_link.new.self in
    let s = c.args.setting.now in
    let cases = c.in_ok-clone.ensures.cases in
    let same = clone_is s c.in_ok-clone.field-0 cases.0 cases.1.0 cases.1.1 in
    inr (not_added old new s.link s _ (subst (λ (t : LinkSetting). RunsCall old t.link (AddLink t) (NotAdded c.in-Err.field-0) new) same c.in-Err.ensures.event) c.requires.good c.requires.few c.requires.absent)

use Rattle.std.proofs.Common.{rules, nat_eq, refl, Some}
use Rattle.rohc_concentrator.specs.declared.links.ChangeFault.TheVariants.{BadSetting}
use Rattle.rohc_concentrator.specs.Calls.{ChangeLink, NotChanged}
use Rattle.rohc_concentrator.proofs.OrderLemmas.{settings_after}
use Rattle.rohc_concentrator.proofs.LinkLemmas.{changes_runs}
use Rattle.rohc_concentrator.proofs.RunsLemmas.{runs_at, not_good_step}
use Rattle.rohc_concentrator.proofs.concentrator.Concentrator.change_link.Goals as goal

pub returns-then-not-is_good-clause-event : goal.returns-then-not-is_good-clause-event
returns-then-not-is_good-clause-event c =
    let r = c.in-Some.records.now in
    runs_at c.args.self.now (record c.args.self.now { links = c.get_mut.follows.lender r }) c.args.setting.link (Some r) (Some r)
    (search rules) (search rules) (search rules) (ChangeLink c.args.setting) (NotChanged BadSetting) (not_good_step c.args.setting r (search rules)) tt
    (settings_after (nat_eq c.args.setting.link) c.args.self.now.links.entries _ r _ (c.get_mut.follows.holds _).0 (search rules) refl)

pub returns-clause-event : goal.returns-clause-event
returns-clause-event c =
    changes_runs c.args.self.now (record c.args.self.now { links = c.get_mut.follows.lender c.change_in-gone.new.records; hints = c.renew_records.new.self }) c.args.setting c.in-Some.records.now c.change_in-gone.new.records
    (search rules) (search rules) (search rules)
    (search rules) c.change_in-gone.ensures.setting (c.get_mut.follows.holds _).0 c.change_in-gone.ensures.leaves

use Rattle.std.proofs.Common.{rules, nat_eq, Some}
use Rattle.rohc_concentrator.specs.Calls.{Forget, Done}
use Rattle.rohc_concentrator.proofs.OrderLemmas.{settings_after}
use Rattle.rohc_concentrator.proofs.RunsLemmas.{runs_at, forgets_step}
use Rattle.rohc_concentrator.proofs.concentrator.Concentrator.forget.Goals as goal

pub returns-clause-event : goal.returns-clause-event
returns-clause-event c =
    let forgets = c.forget_in-gone.ensures in
    let records = c.forget_in-gone.new.records in
    runs_at c.args.self.now (record c.args.self.now { links = c.get_mut.follows.lender records; hints = c.renew_records.new.self }) c.args.link (Some c.in-Some.records.now) (Some records)
    (search rules) (search rules) (search rules) (Forget c.args.cid) Done (forgets_step c.in-Some.records.now records c.args.cid forgets.leaves forgets.setting) tt
    (settings_after (nat_eq c.args.link) c.args.self.now.links.entries _ c.in-Some.records.now _ (c.get_mut.follows.holds _).0 (search rules) forgets.setting)

use Rattle.std.proofs.Common.{rules}
use Rattle.rohc_concentrator.proofs.LinkLemmas.{removes_runs}
use Rattle.rohc_concentrator.proofs.concentrator.Concentrator.remove_link.Goals as goal

pub returns-clause-event : goal.returns-clause-event
returns-clause-event c =
    removes_runs c.args.self.now (record c.args.self.now { links = c.shift_remove.new.self; hints = c.renew_links.new.self }) c.args.link c.in-Some.records
    (search rules) (search rules) (search rules)

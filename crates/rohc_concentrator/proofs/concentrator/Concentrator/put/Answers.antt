use Rattle.std.proofs.Common.{rules, nat_eq, Some}
use Rattle.rohc_context.specs.Record.{record_of}
use Rattle.rohc_concentrator.specs.Calls.{Put, Done, put_answer}
use Rattle.rohc_concentrator.proofs.OrderLemmas.{settings_after}
use Rattle.rohc_concentrator.proofs.RunsLemmas.{runs_at, puts_step, put_step}
use Rattle.rohc_concentrator.proofs.concentrator.Concentrator.put.Goals as goal

pub returns : goal.returns
returns c = record {
  event =
      let p = c.in_ok-put_in.ensures.put in
      runs_at c.args.self.now (record c.args.self.now { links = c.get_mut.follows.lender c.put_in.new.records; hints = c.keep_last.new.self }) c.args.link (Some c.in-Some.records.now) (Some c.put_in.new.records)
      (search rules) (search rules) (search rules) (Put c.args.cid (record_of c.args.context)) Done (puts_step c.in-Some.records.now c.put_in.new.records c.args.cid (record_of c.args.context) p) tt
      (settings_after (nat_eq c.args.link) c.args.self.now.links.entries _ c.in-Some.records.now _ (c.get_mut.follows.holds _).0 (search rules) p.setting);
}

pub returns-in_err-put_in : goal.returns-in_err-put_in
returns-in_err-put_in c = record {
  event =
      let stays = c.in_err-put_in.ensures.stays in
      runs_at c.args.self.now (record c.args.self.now { links = c.get_mut.follows.lender c.put_in.new.records }) c.args.link (Some c.in-Some.records.now) (Some c.put_in.new.records)
      (search rules) (search rules) (search rules) (Put c.args.cid (record_of c.args.context)) (put_answer c.from_residual.result)
      (put_step c.in-Some.records.now c.put_in.new.records c.args.cid (record_of c.args.context) c.from_residual.result (search rules) (search rules) (search rules)) tt
      (settings_after (nat_eq c.args.link) c.args.self.now.links.entries _ c.in-Some.records.now _ (c.get_mut.follows.holds _).0 (search rules) stays.setting);
}

use Rattle.std.proofs.Common.{rules, refl}
use Rattle.rohc_concentrator.proofs.LinkLemmas.{adds_runs}
use Rattle.rohc_concentrator.proofs.concentrator.Concentrator.add_link.Goals as goal

pub returns : goal.returns
returns c = record {
  event =
      adds_runs c.args.self.now (record c.args.self.now { links = c.insert.new.self; hints = c.keep_link.new.self }) c.args.setting (record { setting = c.args.setting; contexts = c.new.result; good = search rules }) refl (search rules) (search rules)
      (search rules) (search rules) (search rules) (λ cid. search rules) (search rules);
}

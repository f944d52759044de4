use Rattle.std.proofs.Common.{rules, refl, nat_eq}
use Rattle.rohc_concentrator.proofs.OrderLemmas.{settings_after}
use Rattle.rohc_concentrator.proofs.RunsLemmas.{resets_runs}
use Rattle.rohc_concentrator.proofs.concentrator.Concentrator.reset.Goals as goal

pub returns : goal.returns
returns c = record {
  event =
      let r = c.in_ok-records.records.now in
      resets_runs c.args.self.now _ c.args.link r (search rules) (search rules) (search rules) (λ cid. search rules) (search rules)
      (settings_after (nat_eq c.args.link) c.args.self.now.links.entries _ r _ (c.get_mut.follows.holds _).0 (search rules) refl);
}

use Rattle.std.proofs.Common.{refl, ap, ◌∙◌}
use Rattle.rohc_piecewise.specs.Between.{start_of}
use Rattle.rohc_piecewise.proofs.UnderLemmas.{begun}
use Rattle.rohc_piecewise.proofs.saver.Saver.begin.Goals as goal

pub returns-clause-begun : goal.returns-clause-begun
returns-clause-begun c =
    begun c.args.moment c.args.concentrator.now _ refl c.in_ok-self.ensures refl refl c.new-self.ensures (c.put_start.ensures.text ∙ ap (start_of c.args.moment) c.len.ensures)

use Rattle.std.proofs.Common.{length, subst, nat_lt, refl}
use Rattle.rohc_saved.specs.Output.{IsTaken}
use Rattle.rohc_saved.proofs.OutputLemmas.{taken_more}
use Rattle.rohc_saved.proofs.output.Output.write.Goals as goal

pub returns-clause-taken : goal.returns-clause-taken
returns-clause-taken g c held text taken =
    taken_more (nat_lt c.give-count.result (length c.args.part.now)) held (g.W.Write.contents c.args.writer.now) (g.W.Write.contents c.give-count.new.writer) text c.args.part.now
    c.saturating_add-self.result c.args.self.now.written c.give-count.result refl c.give-count.ensures.within
    (subst (λ stopped. IsTaken stopped held (g.W.Write.contents c.args.writer.now) text c.args.self.now.written) c.if-self.false taken)
    c.give-count.ensures.taken c.saturating_add-self.ensures

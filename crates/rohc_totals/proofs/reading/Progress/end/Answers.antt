use Rattle.std.proofs.Common.{rules, inl, inr, arith}
use Rattle.std.proofs.lemmas.Grind.{common_steps}
use Rattle.rohc_totals.proofs.ReadingLemmas.{stands_end, stands_whole}
use Rattle.rohc_totals.proofs.reading.Progress.end.Goals as goal
use Rattle.rohc_totals.proofs.reading.Progress.end.Goals.{then-self-via-then-self, then-self-via-else-self+then-not-is_empty}

pub returns-in_ok-add : goal.returns-in_ok-add
returns-in_ok-add c = λ seen. stands_end seen c.args.self.now _ _ (search rules) c.in_ok-add.ensures
    (elim c.then-self.branch [
      | then-self-via-then-self w ↦ inl w.if-self.true
      | then-self-via-else-self+then-not-is_empty w ↦ inr (search rules)
    ])

pub returns-else-not-is_empty : goal.returns-else-not-is_empty
returns-else-not-is_empty c = λ seen. stands_whole seen c.args.self.now c.if-self.false (grind (arith, common_steps))

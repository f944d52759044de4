use Rattle.std.proofs.Common.{◌++◌, ◌∷◌, [], List, ℕ, refl, ap, ◌∙◌, arith}
use Rattle.rohc_piecewise.specs.declared.saver.Stage.TheVariants.{Gathering, Last}
use Rattle.rohc_piecewise.proofs.UnderLemmas.{at_under, opened, closed}
use Rattle.rohc_piecewise.proofs.saver.Saver.go_on.Goals as goal

pub returns-then-self-len-clause-taken : goal.returns-then-self-len-clause-taken
returns-then-self-len-clause-taken c moment heads seen taken h =
    at_under moment heads seen taken _ Gathering refl
    (opened moment heads seen taken c.args.self.now c.put.new.self h (omega (arith, c.if-self-len.true, c.len.ensures))
    (c.put.ensures.text ∙ ap (λ (t : List ℕ). t ++ 0 ∷ 0 ∷ 0 ∷ 0 ∷ 0 ∷ 0 ∷ 0 ∷ 0 ∷ []) c.clear.ensures.none) (c.put.ensures.next ∙ c.clear.ensures.next) (c.put.ensures.count ∙ c.clear.ensures.count))

pub returns-else-self-len-clause-taken : goal.returns-else-self-len-clause-taken
returns-else-self-len-clause-taken c moment heads seen taken h =
    at_under moment heads seen taken _ Last refl
    (closed moment heads seen taken c.args.self.now c.put-else-self-len.new.self c.finalize_reset-digest.new.self h (omega (arith, c.if-self-len.false, c.len.ensures))
    (c.put-else-self-len.ensures.text ∙ ap (λ (t : List ℕ). t ++ c.finalize_reset-digest.result) c.clear.ensures.none ∙ c.finalize_reset-digest.ensures.digest taken h.hashed))

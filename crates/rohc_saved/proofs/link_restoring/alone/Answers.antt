use Rattle.std.proofs.Common.{sym, ◌∙◌}
use Rattle.rohc_saved.proofs.LinkLemmas.{one_link, other_link_found}
use Rattle.rohc_saved.proofs.link_restoring.alone.Goals as goal

pub returns-in_err-saved-clause-other : goal.returns-in_err-saved-clause-other
returns-in_err-saved-clause-other c = λ _ saved is. other_link_found c.args.form.now.links c.args.number saved is (sym c.in_err-saved.ensures.value)

pub returns-then-len-eq1-clause-alone : goal.returns-then-len-eq1-clause-alone
returns-then-len-eq1-clause-alone c = one_link c.args.form.now.links c.args.number c.in_ok-saved.saved.now (sym c.len.ensures.len ∙ c.if-len-eq1.true) (sym c.in_ok-saved.ensures.value)

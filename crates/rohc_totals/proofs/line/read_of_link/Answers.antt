use Rattle.std.proofs.Common.{refl, ap, sym, ◌∙◌, ◌++◌, ◌∷◌, arith}
use Rattle.std.specs.Fmt.{decimal}
use Rattle.rohc_totals.specs.Answer.{OfLink, link_says_text}
use Rattle.rohc_totals.proofs.LineLemmas.{link_spelled}
use Rattle.rohc_totals.proofs.line.read_of_link.Goals as goal

pub returns-clause-tells : goal.returns-clause-tells
returns-clause-tells c =
    let says = c.in_ok-kind.ensures.says in
    (OfLink c.args.link says.0, (omega arith, says.1), ap (λ t. decimal c.args.link ++ 32 ∷ 45 ∷ 32 ∷ t) says.2 ∙ sym (link_spelled c.args.link (link_says_text says.0)), rw says.3 refl)

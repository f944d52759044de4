use Rattle.std.proofs.Common.{refl, inr}
use Rattle.rohc_frame.specs.declared.header.CidKind.{CidKind}
use Rattle.rohc_frame.specs.declared.header.CidKind.TheVariants.{Small, Large}
use Rattle.rohc_feedback.specs.declared.meaning.Word.{Word}
use Rattle.rohc_totals.specs.Answer.{IsElement}
use Rattle.rohc_totals.proofs.feedback.element_kind.Goals as goal

both : (P : CidKind → Type 0) → P Small → P Large → (size : CidKind) → P size
both P small large Small = small
both P small large Large = large

pub returns-in-None : goal.returns-in-None
returns-in-None c = inr (refl, both (λ size. (word : Word) → IsElement c.args.cid c.args.element.now size word → ⊥) c.in_default.ensures.none c.in-None.ensures.none)

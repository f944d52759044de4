use Rattle.std.proofs.Common.{◌≡◌, ◌⊎◌, refl, inl, inr, arith, Ok, ℕ, List, subst}
use Rattle.hex.specs.Hex.{decode_of}
use Rattle.hex.proofs.HexLemmas.{decode_of-ok, decode_of-same}
use Rattle.rohc_frame.specs.declared.header.CidKind.{CidKind}
use Rattle.rohc_feedback.specs.declared.meaning.Word.{Word}
use Rattle.rohc_totals.specs.declared.kind.LineKind.{LineKind}
use Rattle.rohc_totals.specs.declared.kind.LineKind.TheVariants.{OtherFeedback}
use Rattle.rohc_totals.specs.Answer.{IsElement, IsFeedback, kind_of_word}
use Rattle.rohc_totals.proofs.feedback.feedback_kind.Goals as goal

told : (cid : ℕ) (hex octets : List ℕ) (kind : LineKind) → decode_of hex ≡ Ok octets →
    ((size : CidKind) × (word : Word) × IsElement cid octets size word × (kind ≡ kind_of_word word))
    ⊎ (kind ≡ OtherFeedback) × ((size : CidKind) (word : Word) → IsElement cid octets size word → ⊥) → IsFeedback cid hex kind
told cid hex octets kind read (inl is) = inl (octets, is.0, is.1, read, is.2, is.3)
told cid hex octets kind read (inr none) = inr (
  none.0,
  λ other size word again short is.
      none.1 size word (subst (λ (o : List ℕ). IsElement cid o size word) (decode_of-same hex other octets again read) is),
)

pub returns-then-size-gt-LONGEST_ELEMENT : goal.returns-then-size-gt-LONGEST_ELEMENT
returns-then-size-gt-LONGEST_ELEMENT c = inr (
  refl,
  λ octets size word read short is.
      let parts = decode_of-ok c.args.hex.now octets read in omega (arith, parts.2, short),
)

pub returns : goal.returns
returns c = told c.args.cid c.args.hex.now _ c.element_kind.result (c.if-not-decode.ensures.read refl) c.element_kind.ensures

use Rattle.std.proofs.Common.{◌≡◌, refl, ap, sym, ◌∙◌, ◌++◌, ◌∷◌, arith}
use Rattle.std.specs.Fmt.{decimal}
use Rattle.rohc_replay.proofs.PairLemmas.{pair_spelled}
use Rattle.rohc_totals.specs.Answer.{OfCall, call_text}
use Rattle.rohc_totals.proofs.FieldLemmas.{one_field}
use Rattle.rohc_totals.proofs.line.read_of_call.Goals as goal

pub returns-in_err-kind-clause-none : goal.returns-in_err-kind-clause-none
returns-in_err-kind-clause-none c = rw c.from_residual-in_err-kind.ensures (λ cid says small good is.
    let rest = one_field c.in_ok-cid.cid cid c.in_ok-cid.text.now (call_text says) c.in_ok-cid.ensures.fits small (sym c.in_ok-cid.ensures.read ∙ is) in
    c.in_err-kind.ensures.none says good rest)

pub returns-clause-tells : goal.returns-clause-tells
returns-clause-tells c =
    let says = c.in_ok-kind.ensures.says in
    let whole : decimal c.args.link ++ 32 ∷ c.args.text.now ≡ decimal c.args.link ++ 32 ∷ (decimal c.in_ok-cid.cid ++ 32 ∷ call_text says.0) =
    ap (λ t. decimal c.args.link ++ 32 ∷ t) (c.in_ok-cid.ensures.read ∙ ap (λ t. decimal c.in_ok-cid.cid ++ 32 ∷ t) says.2) in
    (OfCall c.args.link c.in_ok-cid.cid says.0, (omega arith, c.in_ok-cid.ensures.fits, says.1), whole ∙ sym (pair_spelled c.args.link c.in_ok-cid.cid (call_text says.0)), (refl, refl, says.3))

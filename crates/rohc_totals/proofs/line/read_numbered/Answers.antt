use Rattle.std.proofs.Common.{List, ℕ, IfSome, ap, sym, ◌∙◌, ◌++◌, ◌∷◌, subst}
use Rattle.std.specs.Fmt.{decimal}
use Rattle.rohc_replay.proofs.PairLemmas.{pair_spelled}
use Rattle.rohc_totals.specs.Answer.{call_text, TellsLine}
use Rattle.rohc_totals.proofs.LineLemmas.{link_of_link, link_of_call, call_of_link, call_of_call}
use Rattle.rohc_totals.proofs.line.read_numbered.Goals as goal

pub returns-in_err-link-clause-call : goal.returns-in_err-link-clause-call
returns-in_err-link-clause-call c = rw c.from_residual.ensures (λ link cid says good is.
    c.in_err-link.ensures.none link (decimal cid ++ 32 ∷ call_text says) good.0 (is ∙ pair_spelled link cid (call_text says)))

pub returns-in-Some : goal.returns-in-Some
returns-in-Some c =
    let field = c.in_ok-link.ensures in
    let dash = c.in-Some.ensures.some in
    let told = c.read_of_link.ensures in
    let r = c.read_of_link.result in
    let whole = field.read ∙ ap (λ t. decimal c.in_ok-link.link ++ 32 ∷ t) dash in
    record {
      tells = subst (λ (t : List ℕ). IfSome r (TellsLine t)) (sym whole) told.tells;
      link = link_of_link c.args.line.now c.in_ok-link.text.now c.in-Some.text.now c.in_ok-link.link r field.fits field.read dash told.none;
      call = link_of_call c.args.line.now c.in_ok-link.text.now c.in-Some.text.now c.in_ok-link.link r _ field.fits field.read dash told.none;
    }

pub returns-in-None : goal.returns-in-None
returns-in-None c =
    let field = c.in_ok-link.ensures in
    let told = c.read_of_call.ensures in
    let r = c.read_of_call.result in
    record {
      tells = subst (λ (t : List ℕ). IfSome r (TellsLine t)) (sym field.read) told.tells;
      link = call_of_link c.args.line.now c.in_ok-link.text.now c.in_ok-link.link r _ field.fits field.read c.in-None.ensures.none told.none;
      call = call_of_call c.args.line.now c.in_ok-link.text.now c.in_ok-link.link r field.fits field.read told.none;
    }

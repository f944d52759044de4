use Rattle.std.proofs.Common.{◌≡◌, ◌∷◌, ◌++◌, ◌∙◌, ℕ, List, [], Some, map, ap, sym, subst, append-nil}
use Rattle.rohc_context.specs.Record.{Record, record_of}
use Rattle.rohc_context.specs.declared.record.Context.{Context}
use Rattle.rohc_concentrator.specs.RunsCall.{Runs}
use Rattle.rohc_saved.specs.Fallen.{put_as, contexts_as}
use Rattle.rohc_saved.specs.Restoring.{up_to, puts_of, StopsAt}
use Rattle.rohc_saved.proofs.FormLemmas.{parts_more}
use Rattle.rohc_saved.proofs.PutLemmas.{puts_more, err_is, stops_more}
use Rattle.rohc_saved.proofs.restoring.put_contexts.Goals as goal

pub loop-cid-preserved : goal.loop-cid-preserved
loop-cid-preserved c =
    let seen : List (ℕ × Context) → List (ℕ × Record) = map (λ (e : ℕ × Context). (e.0, put_as c.args.falls (record_of e.1))) in
    let one : List (ℕ × Record) = (c.in-Some.cid.now, record_of c.put_as-context.result) ∷ [] in
    let cut : seen c.loop-cid.cid-iterator ≡ one ++ seen c.next.new.self = ap seen c.in-Some.ensures.steps ∙ ap (λ r. (c.in-Some.cid.now, r) ∷ seen c.next.new.self) (sym c.put_as-context.ensures) in
    record {
      done = c.loop-cid.invariant.done ++ one;
      parts = parts_more c.loop-cid.invariant.done one (seen c.next.new.self) (seen c.loop-cid.cid-iterator) (contexts_as c.args.falls c.args.contexts.now) cut c.loop-cid.invariant.parts;
      puts =
          puts_more c.args.number (Some c.args.greatest) c.loop-cid.invariant.done one c.args.concentrator.now c.loop-cid.concentrator c.put_context.new.concentrator
          c.loop-cid.invariant.puts c.in_ok-put_context.ensures.puts;
    }

pub returns-clause-puts : goal.returns-clause-puts
returns-clause-puts c =
    let seen : List (ℕ × Context) → List (ℕ × Record) = map (λ (e : ℕ × Context). (e.0, put_as c.args.falls (record_of e.1))) in
    let all : c.loop-cid.invariant.done ≡ contexts_as c.args.falls c.args.contexts.now = sym (append-nil c.loop-cid.invariant.done) ∙ ap (λ es. c.loop-cid.invariant.done ++ seen es) (sym c.in-None.ensures.steps.0) ∙ c.loop-cid.invariant.parts in
    subst (λ cs. Runs c.args.concentrator.now (puts_of c.args.number (up_to (Some c.args.greatest) cs)) c.loop-cid.concentrator) all c.loop-cid.invariant.puts

pub returns-in_err-put_context-clause-stops : goal.returns-in_err-put_context-clause-stops
returns-in_err-put_context-clause-stops c =
    let seen : List (ℕ × Context) → List (ℕ × Record) = map (λ (e : ℕ × Context). (e.0, put_as c.args.falls (record_of e.1))) in
    let one : List (ℕ × Record) = (c.in-Some.cid.now, record_of c.put_as-context.result) ∷ [] in
    let cut : seen c.loop-cid.cid-iterator ≡ one ++ seen c.next.new.self = ap seen c.in-Some.ensures.steps ∙ ap (λ r. (c.in-Some.cid.now, r) ∷ seen c.next.new.self) (sym c.put_as-context.ensures) in
    let old = c.args.concentrator.now in
    let whole : c.loop-cid.invariant.done ++ (one ++ seen c.next.new.self) ≡ contexts_as c.args.falls c.args.contexts.now = ap (λ es. c.loop-cid.invariant.done ++ es) (sym cut) ∙ c.loop-cid.invariant.parts in
    err_is (λ e. StopsAt old c.args.number (up_to (Some c.args.greatest) (contexts_as c.args.falls c.args.contexts.now)) e [] c.put_context.new.concentrator) c.from_residual.result c.in_err-put_context.field-0.0
    c.from_residual.ensures.0 c.from_residual.ensures.1
    (subst (λ cs. StopsAt old c.args.number (up_to (Some c.args.greatest) cs) c.in_err-put_context.field-0.0 [] c.put_context.new.concentrator) whole
    (stops_more c.args.number c.args.greatest c.loop-cid.invariant.done one (seen c.next.new.self) c.in_err-put_context.field-0.0 old c.loop-cid.concentrator c.put_context.new.concentrator c.loop-cid.invariant.puts c.in_err-put_context.ensures.stops))

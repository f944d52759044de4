use Rattle.std.proofs.Common.{◌≡◌, ◌++◌, ℕ, List, flat_map, map, ap, sym, subst, ◌∙◌, append_assoc}
use Rattle.rohc_context.specs.Record.{record_of}
use Rattle.rohc_context.specs.declared.record.Context.{Context}
use Rattle.rohc_saved.specs.Form.{context_text}
use Rattle.rohc_saved.specs.Output.{IsPut}
use Rattle.rohc_saved.proofs.saving.put_contexts.Goals as goal

pub loop-cid-preserved : goal.loop-cid-preserved
loop-cid-preserved g c =
    let one : List ℕ = context_text (c.in-Some.cid.now, record_of c.in-Some.context.now) in
    let more : List ℕ = flat_map context_text (map (λ (e : ℕ × Context). (e.0, record_of e.1)) c.next.new.self) in
    let front : List ℕ = c.loop-cid.invariant.front in
    let text : c.as_slice.result.now ≡ one = c.as_slice.ensures.value ∙ c.context_part.ensures in
    let cut = ap (λ (es : List (ℕ × Context)). front ++ flat_map context_text (map (λ (e : ℕ × Context). (e.0, record_of e.1)) es)) c.in-Some.ensures.steps in
    record {
      front = c.loop-cid.invariant.front ++ one;
      parts = append_assoc front one more ∙ sym cut ∙ c.loop-cid.invariant.parts;
      put = λ held before h.
          subst (λ t. IsPut held (g.W.Write.contents c.put.new.writer) t c.put.new.self) (append_assoc before front one)
          (subst (λ t. IsPut held (g.W.Write.contents c.put.new.writer) ((before ++ front) ++ t) c.put.new.self) text
          (c.put.ensures held (before ++ front) (c.loop-cid.invariant.put held before h)));
    }

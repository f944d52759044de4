use Rattle.std.proofs.Common.{◌++◌, ℕ, List, [], flat_map, ap, sym, subst, ◌∙◌, append_assoc, append-nil, refl}
use Rattle.std.proofs.lemmas.List.{length-map}
use Rattle.rohc_context.specs.Record.{Record, record_of}
use Rattle.rohc_saved.specs.Form.{contexts_in, context_text, head_text}
use Rattle.rohc_saved.specs.Output.{IsPut}
use Rattle.rohc_saved.proofs.FormLemmas.{contexts_are, contexts_none}
use Rattle.rohc_saved.proofs.LinkTexts.{link_with, link_by}
use Rattle.rohc_saved.proofs.saving.put_link.Goals as goal

pub returns-in-Some : goal.returns-in-Some
returns-in-Some g c held text h =
    let contexts : List (ℕ × Record) = contexts_in c.in-Some.records.now.contexts in
    let is = c.tables.ensures.tables.there c.args.setting.now.link c.in-Some.records.now (sym c.in-Some.ensures.value) in
    let are = contexts_are c.args.concentrator.now c.args.setting.now.link c.in-Some.records.now is c.len.ensures.unique in
    let head = c.as_slice.ensures.value ∙ c.head_part.ensures contexts (length-map c.in-Some.records.now.contexts.entries (λ e. (e.0, record_of e.1)) ∙ sym c.len.ensures.len) in
    let whole = append_assoc text (head_text (link_with c.args.setting.now contexts)) (flat_map context_text contexts) ∙ ap (λ t. text ++ t) (link_by c.args.concentrator.now c.args.setting.now contexts are) in
    subst (λ t. IsPut held (g.W.Write.contents c.put_contexts.new.writer) t c.put_contexts.new.out) whole
    (c.put_contexts.ensures held (text ++ head_text (link_with c.args.setting.now contexts))
    (subst (λ t. IsPut held (g.W.Write.contents c.put.new.writer) (text ++ t) c.put.new.self) head (c.put.ensures held text h)))

pub returns-in-None : goal.returns-in-None
returns-in-None g c held text h =
    let are = contexts_none c.args.concentrator.now c.args.setting.now.link (c.tables.ensures.tables.absent c.args.setting.now.link (sym c.in-None.ensures.value)) in
    let head = c.as_slice-in-None.ensures.value ∙ c.head_part-in-None.ensures [] refl in
    let whole = sym (append-nil (head_text (link_with c.args.setting.now []))) ∙ link_by c.args.concentrator.now c.args.setting.now [] are in
    subst (λ t. IsPut held (g.W.Write.contents c.put-in-None.new.writer) (text ++ t) c.put-in-None.new.self) (head ∙ whole) (c.put-in-None.ensures held text h)

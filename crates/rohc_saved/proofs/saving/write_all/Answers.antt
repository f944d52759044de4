use Rattle.std.proofs.Common.{◌≡◌, ℕ, List, [], map, length, ap, sym, subst, ◌∙◌}
use Rattle.std.proofs.lemmas.List.{length-map}
use Rattle.rohc_concentrator.specs.Tables.{settings_in_order}
use Rattle.rohc_concentrator.specs.declared.records.LinkRecords.{LinkRecords}
use Rattle.rohc_saved.specs.Form.{Link, form_of, saved_link_of, start_text, form_text}
use Rattle.rohc_saved.specs.Output.{IsPut}
use Rattle.rohc_saved.proofs.OutputLemmas.{ok_by, err_by}
use Rattle.rohc_saved.proofs.saving.write_all.Goals as goal

pub returns-clause-whole : goal.returns-clause-whole
unfolding form_text
returns-clause-whole g c =
    let links : List (ℕ × Link) = map (saved_link_of c.args.concentrator.now) (settings_in_order c.args.concentrator.now) in
    let count : length links ≡ c.len.result = length-map (settings_in_order c.args.concentrator.now) (saved_link_of c.args.concentrator.now) ∙ ap length (sym c.tables.ensures.tables.in_order) ∙ length-map c.tables.result.now.entries (λ (e : ℕ × LinkRecords). e.1.setting) ∙ sym c.len.ensures.len in
    let start = c.as_slice.ensures.value ∙ c.start_part-start.ensures links count in
    let first = subst (λ t. IsPut (g.W.Write.contents c.args.writer.now) (g.W.Write.contents c.put.new.writer) t c.put.new.self) start (c.put.ensures (g.W.Write.contents c.args.writer.now) [] (c.new-out.ensures (g.W.Write.contents c.args.writer.now))) in
    let all = c.put_links.ensures (g.W.Write.contents c.args.writer.now) (start_text (form_of c.args.moment c.args.concentrator.now)) first in
    ok_by c.finish.result (λ written f. f (g.W.Write.contents c.args.writer.now) (form_text (form_of c.args.moment c.args.concentrator.now)) all) c.finish.ensures.whole

pub returns-clause-fault : goal.returns-clause-fault
unfolding form_text
returns-clause-fault g c =
    let links : List (ℕ × Link) = map (saved_link_of c.args.concentrator.now) (settings_in_order c.args.concentrator.now) in
    let count : length links ≡ c.len.result = length-map (settings_in_order c.args.concentrator.now) (saved_link_of c.args.concentrator.now) ∙ ap length (sym c.tables.ensures.tables.in_order) ∙ length-map c.tables.result.now.entries (λ (e : ℕ × LinkRecords). e.1.setting) ∙ sym c.len.ensures.len in
    let start = c.as_slice.ensures.value ∙ c.start_part-start.ensures links count in
    let first = subst (λ t. IsPut (g.W.Write.contents c.args.writer.now) (g.W.Write.contents c.put.new.writer) t c.put.new.self) start (c.put.ensures (g.W.Write.contents c.args.writer.now) [] (c.new-out.ensures (g.W.Write.contents c.args.writer.now))) in
    let all = c.put_links.ensures (g.W.Write.contents c.args.writer.now) (start_text (form_of c.args.moment c.args.concentrator.now)) first in
    err_by c.finish.result (λ written f. f (g.W.Write.contents c.args.writer.now) (form_text (form_of c.args.moment c.args.concentrator.now)) all) c.finish.ensures.fault

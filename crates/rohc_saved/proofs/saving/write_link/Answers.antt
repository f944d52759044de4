use Rattle.std.proofs.Common.{◌++◌, ◌∷◌, ℕ, List, [], sym, subst, ◌∙◌, refl, append-nil}
use Rattle.rohc_saved.specs.Form.{Link, Form, saved_link_of, start_text, form_text, link_text}
use Rattle.rohc_saved.specs.Output.{IsPut}
use Rattle.rohc_saved.proofs.OutputLemmas.{ok_by, err_by}
use Rattle.rohc_saved.proofs.saving.write_link.Goals as goal

pub returns-clause-whole : goal.returns-clause-whole
unfolding form_text
returns-clause-whole g c =
    let links : List (ℕ × Link) = saved_link_of c.args.concentrator.now c.args.setting.now ∷ [] in
    let form : Form = record { moment = c.args.moment; links = links } in
    let held = g.W.Write.contents c.args.writer.now in
    let start = c.as_slice.ensures.value ∙ c.start_part-start.ensures links refl in
    let first = subst (λ t. IsPut held (g.W.Write.contents c.put.new.writer) t c.put.new.self) start (c.put.ensures held [] (c.new-out.ensures held)) in
    let all = subst (λ t. IsPut held (g.W.Write.contents c.put_link.new.writer) (start_text form ++ t) c.put_link.new.out) (sym (append-nil (link_text (saved_link_of c.args.concentrator.now c.args.setting.now)))) (c.put_link.ensures held (start_text form) first) in
    ok_by c.finish.result (λ written f. f held (form_text form) all) c.finish.ensures.whole

pub returns-clause-fault : goal.returns-clause-fault
unfolding form_text
returns-clause-fault g c =
    let links : List (ℕ × Link) = saved_link_of c.args.concentrator.now c.args.setting.now ∷ [] in
    let form : Form = record { moment = c.args.moment; links = links } in
    let held = g.W.Write.contents c.args.writer.now in
    let start = c.as_slice.ensures.value ∙ c.start_part-start.ensures links refl in
    let first = subst (λ t. IsPut held (g.W.Write.contents c.put.new.writer) t c.put.new.self) start (c.put.ensures held [] (c.new-out.ensures held)) in
    let all = subst (λ t. IsPut held (g.W.Write.contents c.put_link.new.writer) (start_text form ++ t) c.put_link.new.out) (sym (append-nil (link_text (saved_link_of c.args.concentrator.now c.args.setting.now)))) (c.put_link.ensures held (start_text form) first) in
    err_by c.finish.result (λ written f. f held (form_text form) all) c.finish.ensures.fault

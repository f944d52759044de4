use Rattle.std.proofs.Common.{◌++◌, ℕ, List, flat_map, map, ap, subst, append_assoc}
use Rattle.rohc_concentrator.specs.Tables.{settings_in_order}
use Rattle.rohc_concentrator.specs.declared.records.LinkRecords.{LinkRecords}
use Rattle.rohc_saved.specs.Form.{saved_link_of, link_text}
use Rattle.rohc_saved.proofs.FormLemmas.{parts_more}
use Rattle.rohc_saved.specs.Output.{IsPut}
use Rattle.rohc_saved.proofs.saving.put_links.Goals as goal

pub loop-records-preserved : goal.loop-records-preserved
loop-records-preserved g c =
    let one : List ℕ = link_text (saved_link_of c.args.concentrator.now c.in-Some.records.now.setting) in
    let texts : List (ℕ × LinkRecords) → List ℕ = λ es. flat_map link_text (map (saved_link_of c.args.concentrator.now) (map (λ (e : ℕ × LinkRecords). e.1.setting) es)) in
    let front : List ℕ = c.loop-records.invariant.front in
    let cut = ap texts c.in-Some.ensures.steps in
    record {
      front = front ++ one;
      parts = parts_more front one (texts c.next.new.self) (texts c.loop-records.records-iterator) (flat_map link_text (map (saved_link_of c.args.concentrator.now) (settings_in_order c.args.concentrator.now))) cut c.loop-records.invariant.parts;
      put = λ held before h.
          subst (λ t. IsPut held (g.W.Write.contents c.put_link.new.writer) t c.put_link.new.out) (append_assoc before front one)
          (c.put_link.ensures held (before ++ front) (c.loop-records.invariant.put held before h));
    }

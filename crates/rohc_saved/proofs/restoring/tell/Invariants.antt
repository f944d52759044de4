use Rattle.std.proofs.Common.{◌≡◌, ℕ, List, map}
use Rattle.rohc_concentrator.specs.Tables.{setting_at}
use Rattle.rohc_saved.specs.declared.form.SavedLink.{SavedLink}
use Rattle.rohc_saved.specs.Form.{Link}
use Rattle.rohc_saved.specs.Read.{link_in, links_in}
use Rattle.rohc_saved.specs.Restoring.{taken_link, unknown_link, other_link, taken_contexts, left_contexts, high_contexts}
use Rattle.rohc_saved.proofs.RestoringLemmas.{Counts}
use Rattle.rohc_saved.proofs.restoring.tell.Given as goal

-- the links so far were told of
abbrev pub invariant-loop-number : goal.invariant-loop-number
invariant-loop-number l =
    let rest : List (ℕ × Link) = map (λ (e : ℕ × SavedLink). (e.0, link_in e.1)) l.number-iterator in
    let whole : List (ℕ × Link) = links_in l.form.links in
    record {
      moment : l.told.moment ≡ l.form.moment;
      links : Counts taken_link (setting_at l.concentrator) l.told.links rest whole;
      unknown : Counts unknown_link (setting_at l.concentrator) l.told.unknown_links rest whole;
      other : Counts other_link (setting_at l.concentrator) l.told.other_links rest whole;
      contexts : Counts taken_contexts (setting_at l.concentrator) l.told.contexts rest whole;
      left : Counts left_contexts (setting_at l.concentrator) l.told.left_contexts rest whole;
      high : Counts high_contexts (setting_at l.concentrator) l.told.high_contexts rest whole;
    }

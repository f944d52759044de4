use Rattle.std.proofs.Common.{◌≡◌, ◌∷◌, ◌∙◌, ℕ, List, [], map, ap}
use Rattle.rohc_concentrator.specs.Tables.{setting_at}
use Rattle.rohc_saved.specs.declared.form.SavedLink.{SavedLink}
use Rattle.rohc_saved.specs.Form.{Link}
use Rattle.rohc_saved.specs.Read.{link_in, links_in}
use Rattle.rohc_saved.specs.Restoring.{taken_link, unknown_link, other_link, taken_contexts, left_contexts, high_contexts}
use Rattle.rohc_saved.proofs.RestoringLemmas.{counts_more, counts_all}
use Rattle.rohc_saved.proofs.restoring.tell.Goals as goal

pub loop-number-preserved : goal.loop-number-preserved
loop-number-preserved c =
    let seen : List (ℕ × SavedLink) → List (ℕ × Link) = map (λ (e : ℕ × SavedLink). (e.0, link_in e.1)) in
    let one : ℕ × Link = (c.in-Some.number.now, link_in c.in-Some.link.now) in
    let at = setting_at c.args.concentrator.now in
    let rest : List (ℕ × Link) = seen c.next.new.self in
    let before : List (ℕ × Link) = seen c.loop-number.number-iterator in
    let whole : List (ℕ × Link) = links_in c.args.form.now.links in
    let cut : before ≡ one ∷ rest = ap seen c.in-Some.ensures.steps in
    let here = c.loop-number.invariant in
    let told = c.loop-number.told in
    let new = c.add.new.told in
    record {
      moment = c.add.ensures.moment ∙ here.moment;
      links = counts_more taken_link at told.links new.links one rest before whole cut c.tally_at.result.links c.tally_at.ensures.links c.add.ensures.links here.links;
      unknown = counts_more unknown_link at told.unknown_links new.unknown_links one rest before whole cut c.tally_at.result.unknown_links c.tally_at.ensures.unknown c.add.ensures.unknown here.unknown;
      other = counts_more other_link at told.other_links new.other_links one rest before whole cut c.tally_at.result.other_links c.tally_at.ensures.other c.add.ensures.other here.other;
      contexts = counts_more taken_contexts at told.contexts new.contexts one rest before whole cut c.tally_at.result.contexts c.tally_at.ensures.contexts c.add.ensures.contexts here.contexts;
      left = counts_more left_contexts at told.left_contexts new.left_contexts one rest before whole cut c.tally_at.result.left_contexts c.tally_at.ensures.left c.add.ensures.left here.left;
      high = counts_more high_contexts at told.high_contexts new.high_contexts one rest before whole cut c.tally_at.result.high_contexts c.tally_at.ensures.high c.add.ensures.high here.high;
    }

pub returns : goal.returns
returns c =
    let seen : List (ℕ × SavedLink) → List (ℕ × Link) = map (λ (e : ℕ × SavedLink). (e.0, link_in e.1)) in
    let at = setting_at c.args.concentrator.now in
    let rest : List (ℕ × Link) = seen c.loop-number.number-iterator in
    let whole : List (ℕ × Link) = links_in c.args.form.now.links in
    let cut : rest ≡ [] = ap seen c.in-None.ensures.steps.0 in
    let here = c.loop-number.invariant in
    let told = c.loop-number.told in
    record {
      moment = here.moment;
      links = counts_all taken_link at told.links rest whole cut here.links;
      unknown = counts_all unknown_link at told.unknown_links rest whole cut here.unknown;
      other = counts_all other_link at told.other_links rest whole cut here.other;
      contexts = counts_all taken_contexts at told.contexts rest whole cut here.contexts;
      left = counts_all left_contexts at told.left_contexts rest whole cut here.left;
      high = counts_all high_contexts at told.high_contexts rest whole cut here.high;
    }

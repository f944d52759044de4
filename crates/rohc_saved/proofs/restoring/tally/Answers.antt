use Rattle.std.proofs.Common.{◌≡◌, ◌<◌, ◌^◌, ◌-◌, ◌∙◌, length, sym, ap, subst, refl, option_map, arith}
use Rattle.std.proofs.lemmas.List.{length-map}
use Rattle.rohc_context.specs.Record.{record_of}
use Rattle.rohc_saved.specs.Form.{contexts_in}
use Rattle.rohc_saved.specs.Read.{link_in}
use Rattle.rohc_saved.specs.Restoring.{TellsOne}
use Rattle.rohc_saved.proofs.RestoringLemmas.{tells_taken}
use Rattle.rohc_saved.proofs.restoring.tally.Goals as goal

pub returns : goal.returns
returns c =
    let all : length (contexts_in c.args.link.now.contexts) ≡ c.len-all.result = length-map c.args.link.now.contexts.entries (λ e. (e.0, record_of e.1)) ∙ sym c.len-all.ensures.len in
    let small : length (contexts_in c.args.link.now.contexts) < 2 ^ 63 = let low = c.len-all.ensures.small in omega (arith, all, low) in
    let zero = c.default-none.ensures in
    subst (λ o. TellsOne (option_map (λ s. s.now) o) (link_in c.args.link.now) (record { moment = c.default-none.result.moment; links = 1; unknown_links = c.default-none.result.unknown_links; other_links = c.default-none.result.other_links; contexts = c.count_up_to-taken.result; left_contexts = c.default-none.result.left_contexts; high_contexts = c.saturating_sub.result }))
    (sym c.in-Some.is)
    (tells_taken c.in-Some.setting.now (link_in c.args.link.now) c.in-Some-limit_under.greatest _ (sym c.limit_under.ensures ∙ c.in-Some-limit_under.is) small refl zero.1.1.0 zero.1.1.1.0 c.count_up_to-taken.ensures zero.1.1.1.1.1.0 (c.saturating_sub.ensures ∙ ap (λ n. n - c.count_up_to-taken.result) (sym all)))

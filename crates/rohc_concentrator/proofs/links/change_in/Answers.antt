use Rattle.std.proofs.Common.{rules, ◌∙◌}
use Rattle.std.proofs.lemmas.Map.Made.{filter_same_pairs}
use Rattle.rohc_context.specs.Record.{record_of}
use Rattle.rohc_concentrator.specs.Leaving.{survives}
use Rattle.rohc_concentrator.proofs.LeavingLemmas.{leaves_in}
use Rattle.rohc_concentrator.proofs.links.change_in.Goals as goal

pub returns-clause-leaves : goal.returns-clause-leaves
returns-clause-leaves c =
    let passes = survives c.args.records.now.setting c.args.setting in
    let kept = filter_same_pairs _ (λ e. passes e.0 (record_of e.1)) _ (λ k v b w f' t. search rules) c.args.records.now.contexts.entries c.retain.new.self.entries c.retain.ensures.filtered in
    leaves_in passes c.args.records.now _ c.len-before.ensures.unique (c.shrink_to_fit.ensures.entries ∙ kept)

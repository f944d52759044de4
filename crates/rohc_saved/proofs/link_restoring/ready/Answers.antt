use Rattle.std.proofs.Common.{◌≡◌, Option, Some, None, refl, sym, ◌∙◌}
use Rattle.rohc_concentrator.specs.declared.setting.LinkSetting.{LinkSetting}
use Rattle.rohc_saved.proofs.LinkLemmas.{held_none, held_some}
use Rattle.rohc_saved.proofs.link_restoring.ready.Goals as goal

pub returns-then-not-is_empty-clause-fault : goal.returns-then-not-is_empty-clause-fault
returns-then-not-is_empty-clause-fault c =
    let is = c.tables.ensures.tables.there c.args.number c.in-Some.records.now (sym c.in-Some.ensures.value) in
    λ octets. (
      refl,
      λ none. (let never : ◌≡◌ {A = Option LinkSetting} (Some c.in-Some.records.now.setting) None = sym is.setting ∙ none in cc),
      λ held. (let empty = c.is_empty.ensures.1 (held_some c.args.concentrator.now c.args.number c.in-Some.records.now is held) in let full = c.if-not-is_empty.true in cc),
    )

pub returns-clause-ready : goal.returns-clause-ready
returns-clause-ready c =
    let is = c.tables.ensures.tables.there c.args.number c.in-Some.records.now (sym c.in-Some.ensures.value) in
    record {
      there = is.setting;
      empty = held_none c.args.concentrator.now c.args.number c.in-Some.records.now is (c.is_empty.ensures.0 c.if-not-is_empty.false);
    }

use Rattle.std.proofs.Common.{◌≡◌, Option, Some, None, Ok, Err, refl, sym, subst, ◌∙◌}
use Rattle.rohc_concentrator.specs.declared.setting.LinkSetting.{LinkSetting}
use Rattle.rohc_saved.specs.declared.fault.SaveFault.TheVariants.{Write}
use Rattle.rohc_saved.specs.Output.{SavesLink}
use Rattle.rohc_saved.proofs.saving.save_link.Goals as goal

pub returns-in-Ok-clause-saved : goal.returns-in-Ok-clause-saved
returns-in-Ok-clause-saved g c =
    let is = c.tables.ensures.tables.there c.args.link c.in-Some.records.now (sym c.in-Some.ensures.value) in
    subst (λ s. SavesLink c.args.moment c.args.concentrator.now s (g.W.Write.contents c.args.writer.now) (g.W.Write.contents c.write_link.new.writer) (Ok c.in-Ok.written)) (sym is.setting) c.in-Ok.ensures.whole

pub returns-in-Ok-clause-stays : goal.returns-in-Ok-clause-stays
returns-in-Ok-clause-stays g c none =
    let is = c.tables.ensures.tables.there c.args.link c.in-Some.records.now (sym c.in-Some.ensures.value) in
    absurd (let never : ◌≡◌ {A = Option LinkSetting} (Some c.in-Some.records.now.setting) None = sym is.setting ∙ none in cc)

pub returns-in-Err-clause-saved : goal.returns-in-Err-clause-saved
returns-in-Err-clause-saved g c =
    let is = c.tables.ensures.tables.there c.args.link c.in-Some.records.now (sym c.in-Some.ensures.value) in
    subst (λ s. SavesLink c.args.moment c.args.concentrator.now s (g.W.Write.contents c.args.writer.now) (g.W.Write.contents c.write_link.new.writer) (Err (Write c.in-Err.written))) (sym is.setting) (record { written = c.in-Err.written; fault_is = refl; part = c.in-Err.ensures.fault })

pub returns-in-Err-clause-stays : goal.returns-in-Err-clause-stays
returns-in-Err-clause-stays g c none =
    let is = c.tables.ensures.tables.there c.args.link c.in-Some.records.now (sym c.in-Some.ensures.value) in
    absurd (let never : ◌≡◌ {A = Option LinkSetting} (Some c.in-Some.records.now.setting) None = sym is.setting ∙ none in cc)

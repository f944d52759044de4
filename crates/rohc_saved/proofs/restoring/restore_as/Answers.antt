use Rattle.std.proofs.Common.{sym, subst}
use Rattle.rohc_concentrator.specs.Tables.{setting_at}
use Rattle.rohc_concentrator.specs.RunsCall.{Runs}
use Rattle.rohc_saved.specs.Read.{form_in}
use Rattle.rohc_saved.specs.Restoring.{puts_in}
use Rattle.rohc_saved.specs.Fallen.{form_as}
use Rattle.rohc_saved.proofs.RestoringLemmas.{restores}
use Rattle.rohc_saved.proofs.FallenLemmas.{links_put}
use Rattle.rohc_saved.proofs.restoring.restore_as.Goals as goal

pub returns-clause-restored : goal.returns-clause-restored
returns-clause-restored c =
    let made = c.in-Ok.concentrator in
    let form = form_in c.in_ok-form.form in
    let puts = subst (λ links. Runs made (puts_in (setting_at made) links) c.take_links.new.concentrator) (sym (links_put c.args.falls c.in_ok-form.form)) c.in-Ok-take_links.ensures.puts in
    let both = restores c.args.settings.now form (form_as c.args.falls form) made c.take_links.new.concentrator c.tell-told.result c.in-Ok.ensures.in_order c.in-Ok.ensures.each c.in-Ok.ensures.empty puts c.tell-told.ensures in
    (form, c.in_ok-form.ensures.reads, both.0, both.1)

use Rattle.std.proofs.Common.{sym, subst}
use Rattle.rohc_saved.specs.Read.{link_in}
use Rattle.rohc_saved.specs.Restoring.{TellsOne}
use Rattle.rohc_saved.proofs.restoring.tally_at.Goals as goal

pub returns-in-Some : goal.returns-in-Some
returns-in-Some c =
    let is = c.tables.ensures.tables.there c.args.number c.in-Some.records.now (sym c.in-Some.ensures.value) in
    subst (λ s. TellsOne s (link_in c.args.link.now) c.tally.result) (sym is.setting) c.tally.ensures

use Rattle.std.proofs.Common.{sym, ap, ◌∙◌}
use Rattle.rohc_saved.specs.Read.{link_in}
use Rattle.rohc_saved.specs.Restoring.{limit_of}
use Rattle.rohc_saved.proofs.restoring.limit.Goals as goal

pub returns-in-Some : goal.returns-in-Some
returns-in-Some c =
    let is = c.tables.ensures.tables.there c.args.number c.in-Some.records.now (sym c.in-Some.ensures.value) in
    c.limit_under.ensures ∙ ap (λ s. limit_of s (link_in c.args.link.now)) (sym is.setting)

pub returns-in-None : goal.returns-in-None
returns-in-None c = ap (λ s. limit_of s (link_in c.args.link.now)) (sym (c.tables.ensures.tables.absent c.args.number (sym c.in-None.ensures.value)))

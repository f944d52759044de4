use Rattle.std.proofs.Common.{rules, inr, sym, subst, ◌∙◌}
use Rattle.rohc_concentrator.specs.Tables.{KeepsAll}
use Rattle.rohc_saved.specs.Read.{link_in, form_in}
use Rattle.rohc_saved.specs.LinkRestoring.{LinkFaultIn}
use Rattle.rohc_saved.proofs.PutLemmas.{err_is}
use Rattle.rohc_saved.proofs.LinkLemmas.{link_runs_out}
use Rattle.rohc_saved.proofs.link_restoring.restore_link.Goals as goal

pub returns-in_err-setting-clause-fault : goal.returns-in_err-setting-clause-fault
returns-in_err-setting-clause-fault c = (let is = c.in_err-setting.ensures.fault c.args.octets.now in search rules)

pub returns-in_err-fill-clause-stays : goal.returns-in_err-fill-clause-stays
returns-in_err-fill-clause-stays c =
    let old = c.args.concentrator.now in
    let new = c.fill.new.concentrator in
    let stop = c.in_err-fill.ensures.stops in
    let out = link_runs_out old new c.args.link c.args.octets.now c.in_ok-setting.setting.now (form_in c.in_ok-form.form) (link_in c.in-Some.saved.now) c.in-Some-limit_under.greatest stop.1 stop.2
    c.in_ok-setting.ensures.ready c.in_ok-form.ensures.reads c.in-Some.ensures.alone (sym c.limit_under.ensures ∙ c.in-Some-limit_under.is) stop.3 in
    err_is (λ e. KeepsAll old new) c.from_residual-in_err-fill.result c.in_err-fill.field-0.0 c.from_residual-in_err-fill.ensures.0 c.from_residual-in_err-fill.ensures.1 out.1

pub returns-in_err-fill-clause-fault : goal.returns-in_err-fill-clause-fault
returns-in_err-fill-clause-fault c =
    let old = c.args.concentrator.now in
    let new = c.fill.new.concentrator in
    let stop = c.in_err-fill.ensures.stops in
    let out = link_runs_out old new c.args.link c.args.octets.now c.in_ok-setting.setting.now (form_in c.in_ok-form.form) (link_in c.in-Some.saved.now) c.in-Some-limit_under.greatest stop.1 stop.2
    c.in_ok-setting.ensures.ready c.in_ok-form.ensures.reads c.in-Some.ensures.alone (sym c.limit_under.ensures ∙ c.in-Some-limit_under.is) stop.3 in
    err_is (LinkFaultIn old c.args.link c.args.octets.now new) c.from_residual-in_err-fill.result c.in_err-fill.field-0.0 c.from_residual-in_err-fill.ensures.0 c.from_residual-in_err-fill.ensures.1
    (subst (LinkFaultIn old c.args.link c.args.octets.now new) (sym stop.0) (c.in_ok-setting.setting.now, c.in_ok-setting.ensures.ready, inr out.0))

use Rattle.rohc_frame.specs.Reading.{header_of}
use Rattle.rohc_context.specs.Settings.{limits}
use Rattle.rohc_context.specs.Record.{reference_of, previous_of}
use Rattle.rohc_context.specs.Update.{said_under}
use Rattle.rohc_context.specs.Shown.{full_plans}
use Rattle.rohc_context.proofs.ShownLemmas.{refusal_shown, full_shown}
use Rattle.rohc_context.proofs.state.FullContext.tries.Goals as goal

pub returns-in_err-form : goal.returns-in_err-form
returns-in_err-form c =
    let self = c.args.self.now in
    let held = reference_of self.reference in
    refusal_shown self.fixed (full_plans (limits c.args.settings.now) c.args.passed held (previous_of self)) (said_under (header_of c.args.forward.now) held) c.in_err-form.field-0.0
    c.from_residual.result c.in_err-form.ensures.fault c.in_err-form.ensures.refused c.from_residual.ensures

pub returns : goal.returns
returns c =
    let self = c.args.self.now in
    let held = reference_of self.reference in
    full_shown self.fixed (limits c.args.settings.now) c.args.passed held (previous_of self) (said_under (header_of c.args.forward.now) held) c.in_ok-form.form
    c.meant_by.result c.second-second.result c.third-third.result c.in_order-tries.result c.in_ok-form.ensures.read c.in_ok-form.ensures.short
    c.in_order-tries.ensures.placed c.in_order-tries.ensures.results c.meant_by.ensures
    c.is_fit-settled.result c.is_fit.result c.is_fit-settled.ensures c.is_fit.ensures c.second-second.ensures c.third-third.ensures

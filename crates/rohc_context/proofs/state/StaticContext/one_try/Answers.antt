use Rattle.rohc_frame.specs.Reading.{header_of}
use Rattle.rohc_forms.specs.Packets.{content}
use Rattle.rohc_context.specs.Record.{reference_of}
use Rattle.rohc_context.specs.Update.{said_under}
use Rattle.rohc_context.specs.Shown.{static_plans}
use Rattle.rohc_context.proofs.ShownLemmas.{refusal_shown, static_shown}
use Rattle.rohc_context.proofs.state.StaticContext.one_try.Goals as goal

pub returns-in_err-form : goal.returns-in_err-form
returns-in_err-form c =
    let held = reference_of c.args.reference.now in
    refusal_shown c.args.self.now.fixed (λ d. static_plans held) (said_under (header_of c.args.forward.now) held) c.in_err-form.field-0.0
    c.from_residual.result c.in_err-form.ensures.fault c.in_err-form.ensures.refused c.from_residual.ensures

pub returns : goal.returns
returns c =
    let held = reference_of c.args.reference.now in
    static_shown c.args.self.now.fixed held (said_under (header_of c.args.forward.now) held) c.in_ok-form.form
    c.meant_by.result c.not_made-second.result c.in_order-tries.result c.in_ok-form.ensures.read c.in_ok-form.ensures.short
    c.in_order-tries.ensures.placed c.in_order-tries.ensures.results c.meant_by.ensures c.is_fit.result c.is_fit.ensures
    (c.not_made-second.ensures c.args.self.now.fixed (content c.in_ok-form.form))

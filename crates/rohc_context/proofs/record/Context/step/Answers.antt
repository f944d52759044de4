use Rattle.std.proofs.Common.{rules, sym, ◌∙◌}
use Rattle.rohc_frame.specs.Reading.{header_of}
use Rattle.rohc_context.specs.Record.{record_of}
use Rattle.rohc_context.specs.Response.{response_of}
use Rattle.rohc_context.proofs.Taken.{idles}
use Rattle.rohc_context.proofs.record.Context.step.Goals as goal

pub returns-in-IrDyn-clause-step : goal.returns-in-IrDyn-clause-step
returns-in-IrDyn-clause-step c =
    idles c.args.settings.now c.args.moment (header_of c.args.forward.now) (record_of c.args.self.now) (response_of c.refused.result) (search (rules, c.in-IrDyn.is))
    (sym c.counts-counts.ensures ∙ (search rules)) c.refused.ensures

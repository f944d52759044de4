use Rattle.std.proofs.Common.{rules, ◌≡◌, true, ◌-◌, None, refl, sym, ap, ◌∙◌}
use Rattle.rohc_frame.specs.Reading.{header_of}
use Rattle.rohc_context.specs.declared.state.State.TheVariants.{Full}
use Rattle.rohc_context.specs.Record.{reference_of, previous_of, record_of, state_of}
use Rattle.rohc_context.specs.Response.{delivered}
use Rattle.rohc_context.specs.Settings.{limits}
use Rattle.rohc_context.specs.Window.{outcomes}
use Rattle.rohc_context.specs.Step.{counts}
use Rattle.rohc_context.proofs.FirstTryLemmas.{lone_first}
use Rattle.rohc_context.proofs.record.Context.take_first.Goals as goal

pub returns-clause-taken : goal.returns-clause-taken
unfolding record_of
returns-clause-taken c = λ s is.
    let context = c.in-Full.context in
    let t = c.in-Some.ensures.taken in
    let counted : counts s c.args.moment (record_of c.args.self.now) ≡ true = rw is (sym c.counts.ensures ∙ (search rules)) in
    lone_first s c.args.moment (header_of c.args.forward.now) c.args.self.now.accepted (state_of c.args.self.now.state)
    context.fixed (reference_of context.reference) (previous_of context) (outcomes context.windows.0) t.0
    (delivered c.in-Some.packet.head.items c.in-Some.packet.payload.now None) (state_of (Full c.first_try.new.self))
    (ap state_of c.in-Full.is) (search rules) counted (t.1 (limits s) (c.args.moment - c.args.self.now.accepted)) (rw (t.2, t.3) refl) t.4

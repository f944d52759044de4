use Rattle.std.proofs.Common.{rules}
use Rattle.rohc_frame.specs.Reading.{header_of}
use Rattle.rohc_forms.specs.Packets.{content}
use Rattle.rohc_context.specs.declared.state.State.TheVariants.{Full}
use Rattle.rohc_context.specs.Record.{reference_of, previous_of, state_of}
use Rattle.rohc_context.specs.Response.{response_of}
use Rattle.rohc_context.specs.Window.{outcomes}
use Rattle.rohc_context.specs.Settings.{limits}
use Rattle.rohc_context.specs.Tries.{full_tries}
use Rattle.rohc_context.specs.Update.{said_under}
use Rattle.rohc_context.proofs.UpdateLemmas.{Updated, judged, updated_or_unfit, after_miss}
use Rattle.rohc_context.proofs.state.FullContext.update.Goals as goal
use Rattle.rohc_context.proofs.state.FullContext.update.Goals.{After-take, After-take_third}

by_all_tries : (c : After-take) → Updated c.args.self.now.fixed (full_tries (limits c.args.settings.now) c.args.passed (reference_of c.args.self.now.reference) (previous_of c.args.self.now))
    (said_under (header_of c.args.forward.now) (reference_of c.args.self.now.reference)) (reference_of c.args.self.now.reference) (outcomes c.args.self.now.windows.0)
    c.take.result (response_of c.take.new.reply) (state_of (Full c.take.new.self))
by_all_tries c =
    let self = c.args.self.now in
    let held = reference_of self.reference in
    updated_or_unfit self.fixed (full_tries (limits c.args.settings.now) c.args.passed held (previous_of self)) (said_under (header_of c.args.forward.now) held) held (outcomes self.windows.0)
    (content c.in_ok-form.form) c.accepted-accepted.result.0 c.accepted-accepted.result.1 c.take.result (response_of c.take.new.reply) (state_of (Full c.take.new.self)) _
    c.in_ok-form.ensures.read c.in_ok-form.ensures.short c.accepted-accepted.ensures.verdict c.accepted-accepted.ensures.repaired c.take.ensures.taken c.take.ensures.unfit

pub returns-then-is_some-clause-taken : goal.returns-then-is_some-clause-taken
returns-then-is_some-clause-taken c = (by_all_tries c).0

pub returns-then-is_some-clause-fault : goal.returns-then-is_some-clause-fault
returns-then-is_some-clause-fault c = (by_all_tries c).1

pub returns-then-is_some-clause-repaired : goal.returns-then-is_some-clause-repaired
returns-then-is_some-clause-repaired c = (by_all_tries c).2

pub returns-in-Some-clause-taken : goal.returns-in-Some-clause-taken
returns-in-Some-clause-taken c =
    let self = c.args.self.now in
    let held = reference_of self.reference in
    let t = c.in-Some.ensures.taken in (
      t.0,
      judged self.fixed (full_tries (limits c.args.settings.now) c.args.passed held (previous_of self)) (said_under (header_of c.args.forward.now) held) (content c.in_ok-form.form) _
          c.in_ok-form.ensures.read c.in_ok-form.ensures.short t.1,
      search rules,
      t.4,
    )

by_third_try : (c : After-take_third) → Updated c.args.self.now.fixed (full_tries (limits c.args.settings.now) c.args.passed (reference_of c.args.self.now.reference) (previous_of c.args.self.now))
    (said_under (header_of c.args.forward.now) (reference_of c.args.self.now.reference)) (reference_of c.args.self.now.reference) (outcomes c.args.self.now.windows.0)
    c.take_third.result (response_of c.take_third.new.reply) (state_of (Full c.take_third.new.self))
by_third_try c =
    after_miss (limits c.args.settings.now) c.args.passed (header_of c.args.forward.now) c.args.self.now c.take_plain.new.self (content c.in_ok-form.form)
    c.take_third.result (response_of c.take_third.new.reply) (state_of (Full c.take_third.new.self))
    c.in_default.ensures.stays c.in_ok-form.ensures.read c.in_ok-form.ensures.short c.in_default.ensures.first c.in_default.ensures.misses c.take_third.ensures.taken
    c.take_third.ensures.repaired c.take_third.ensures.unfit

pub returns-clause-taken : goal.returns-clause-taken
returns-clause-taken c = (by_third_try c).0

pub returns-clause-fault : goal.returns-clause-fault
returns-clause-fault c = (by_third_try c).1

pub returns-clause-repaired : goal.returns-clause-repaired
returns-clause-repaired c = (by_third_try c).2

use Rattle.std.proofs.Common.{ap, sym, subst, ◌∙◌, Ok, Err, Some, is_some}
use Rattle.rohc_frame.specs.Reading.{header_of}
use Rattle.rohc_context.specs.declared.state.State.TheVariants.{Full}
use Rattle.rohc_context.specs.Record.{Record, reference_of, previous_of, state_of, record_of}
use Rattle.rohc_context.specs.Response.{response_of}
use Rattle.rohc_context.specs.Window.{outcomes}
use Rattle.rohc_context.specs.Outcomes.{ends}
use Rattle.rohc_context.specs.Step.{Gives, arrival}
use Rattle.rohc_context.specs.Update.{updated}
use Rattle.rohc_context.proofs.RepairedLemmas.{ended_unrepaired, is_full, one_try, full_repairs}
use Rattle.rohc_context.proofs.UpdateLemmas.{delivers_silently, normals, updates}
use Rattle.rohc_context.proofs.record.Context.update.Goals as goal

pub returns-in-Plain-clause-step : goal.returns-in-Plain-clause-step
unfolding record_of
returns-in-Plain-clause-step c =
    normals (state_of c.args.self.now.state) c.args.self.now.accepted c.args.moment c.args.settings.now (header_of c.args.forward.now) (response_of c.normal.result)
    (ap state_of c.in-Plain.is) c.normal.ensures

pub returns-in-Ok-clause-step : goal.returns-in-Ok-clause-step
unfolding record_of
returns-in-Ok-clause-step c =
    let context = c.in-Full.context in
    let held = reference_of context.reference in
    let window = outcomes context.windows.0 in
    let h = header_of c.args.forward.now in
    let t = c.in-Ok.ensures.taken in
    updates (state_of c.args.self.now.state) context.fixed held (previous_of context) window (ap state_of c.in-Full.is)
    c.args.self.now.accepted c.args.moment c.saturating_sub-passed.result c.args.settings.now h c.args.forward.now.first (Ok t.0) (response_of c.update.new.reply) _
    c.saturating_sub-passed.ensures t.1
    (delivers_silently c.args.settings.now c.args.moment h (record_of c.args.self.now) (updated context.fixed held window) t.0 (response_of c.update.new.reply)
    (state_of (Full c.update.new.self)) t.2 t.3)

pub returns-in-Err-clause-step : goal.returns-in-Err-clause-step
unfolding record_of
returns-in-Err-clause-step c =
    let context = c.in-Full.context in
    let h = header_of c.args.forward.now in
    let accepted = c.args.self.now.accepted in
    let same = ap Full c.in-Err.ensures.stays ∙ sym c.in-Full.is in
    let found = ap (λ st. Some (record { accepted = accepted; state = state_of st })) same in
    updates (state_of c.args.self.now.state) context.fixed (reference_of context.reference) (previous_of context) (outcomes context.windows.0) (ap state_of c.in-Full.is)
    accepted c.args.moment c.saturating_sub-passed.result c.args.settings.now h c.args.forward.now.first (Err c.in-Err.found)
    (response_of c.end.new.reply) (Some (record_of c.end.new.self))
    c.saturating_sub-passed.ensures c.in-Err.ensures.fault
    (subst (λ r. Gives c.args.settings.now h (ends (arrival c.args.settings.now c.args.moment h) r r c.in-Err.found) (response_of c.end.new.reply) (Some (record_of c.end.new.self))) found c.end.ensures)

pub returns-in-Plain-clause-repaired : goal.returns-in-Plain-clause-repaired
unfolding record_of
returns-in-Plain-clause-repaired c =
    one_try (is_some (response_of c.normal.result).packet) (state_of c.args.self.now.state) (header_of c.args.forward.now) (ap (λ st. is_full (state_of st)) c.in-Plain.is)

pub returns-in-Ok-clause-repaired : goal.returns-in-Ok-clause-repaired
unfolding record_of
returns-in-Ok-clause-repaired c =
    let context = c.in-Full.context in
    let t = c.in-Ok.ensures.taken in
    full_repairs (state_of c.args.self.now.state) context.fixed (reference_of context.reference) (previous_of context) (outcomes context.windows.0) (header_of c.args.forward.now)
    (response_of c.update.new.reply) t.0.header.octets t.0.content.payload c.in-Ok.repaired (ap state_of c.in-Full.is) t.2 c.in-Ok.ensures.repaired

pub returns-in-Err-clause-repaired : goal.returns-in-Err-clause-repaired
unfolding record_of
returns-in-Err-clause-repaired c =
    let h = header_of c.args.forward.now in
    let left : Record = record { accepted = c.args.self.now.accepted; state = state_of (Full c.update.new.self) } in
    ended_unrepaired c.args.settings.now h (arrival c.args.settings.now c.args.moment h) left (Some left) c.in-Err.found (response_of c.end.new.reply) _
    (state_of c.args.self.now.state) c.end.ensures

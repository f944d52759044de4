use Rattle.std.proofs.Common.{◌≡◌, ap, ◌∙◌, sym, subst, Ok, Err, Some}
use Rattle.rohc_feedback.specs.Element.{octets_of}
use Rattle.rohc_context.specs.declared.due.Due.TheVariants.{Ack}
use Rattle.rohc_context.specs.declared.state.State.TheVariants.{Full as Level}
use Rattle.rohc_context.specs.Due.{sent}
use Rattle.rohc_context.specs.Response.{response_of}
use Rattle.rohc_context.specs.Update.{settled, acknowledged, promoted}
use Rattle.rohc_context.specs.Step.{Gives, arrival}
use Rattle.rohc_frame.specs.Reading.{header_of}
use Rattle.rohc_context.specs.Window.{outcomes}
use Rattle.rohc_context.specs.Record.{Reference, reference_of, state_of, record_of}
use Rattle.rohc_context.proofs.UpdateLemmas.{promotes, accepts_as, static_is}
use Rattle.rohc_context.proofs.record.Context.promote.Goals as goal

pub promote-requires-clause-kept : goal.promote-requires-clause-kept
promote-requires-clause-kept c = c.in-Static.context.kept c.in-Some.reference c.in-Some.is

pub returns-in-Ok : goal.returns-in-Ok
unfolding record_of
returns-in-Ok c =
    let context = c.in-Static.context in
    let h = header_of c.args.forward.now in
    let state = state_of c.args.self.now.state in
    let r = record_of c.args.self.now in
    let t = c.in-Ok.ensures.taken in
    let next = Some (record { accepted = c.args.moment; state = state_of (Level c.in-Ok.context) }) in
    let due : octets_of c.feedback-feedback.result ≡ sent c.args.settings.now.mode h (acknowledged t.0) =
    c.feedback-feedback.ensures ∙ ap (λ (x : Reference). sent c.args.settings.now.mode h (Ack x.moving.sn)) t.5 in
    promotes state context.fixed (reference_of c.in-Some.reference) (outcomes context.windows.0) (outcomes context.windows.1)
    (static_is c.args.self.now.state context c.in-Some.reference c.in-Static.is c.in-Some.is)
    c.args.self.now.accepted c.args.moment c.args.settings.now h c.args.forward.now.first (Ok t.0) (response_of c.delivered.result) next
    (sym c.is_uor_2.ensures ∙ c.if-not-is_uor_2.false) t.1
    (subst (λ x. Gives c.args.settings.now h (settled (arrival c.args.settings.now c.args.moment h) r (promoted context.fixed) acknowledged (Ok t.0)) x next) (sym c.delivered.ensures)
    (accepts_as c.args.settings.now c.args.moment h r (promoted context.fixed) acknowledged t.0 c.in-Ok.packet.head.items c.in-Ok.packet.payload.now
    (octets_of c.feedback-feedback.result) (state_of (Level c.in-Ok.context)) t.2 t.3 due t.4))

pub returns-in-Err : goal.returns-in-Err
unfolding record_of
returns-in-Err c =
    let context = c.in-Static.context in
    let h = header_of c.args.forward.now in
    promotes (state_of c.args.self.now.state) context.fixed (reference_of c.in-Some.reference) (outcomes context.windows.0) (outcomes context.windows.1)
    (static_is c.args.self.now.state context c.in-Some.reference c.in-Static.is c.in-Some.is)
    c.args.self.now.accepted c.args.moment c.args.settings.now h c.args.forward.now.first (Err c.in-Err.fault) (response_of c.end.new.reply) (Some (record_of c.end.new.self))
    (sym c.is_uor_2.ensures ∙ c.if-not-is_uor_2.false) c.in-Err.ensures.fault c.end.ensures

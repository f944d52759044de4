use Rattle.std.proofs.Common.{ap}
use Rattle.rohc_frame.specs.Reading.{header_of}
use Rattle.rohc_forms.specs.Packets.{content}
use Rattle.rohc_context.specs.Window.{outcomes}
use Rattle.rohc_context.specs.Record.{reference_of}
use Rattle.rohc_context.specs.Tries.{static_tries}
use Rattle.rohc_context.specs.Update.{said_under}
use Rattle.rohc_context.specs.Read.{explained_of, acceptance_of}
use Rattle.rohc_context.proofs.UpdateLemmas.{judged, first_fits, promoted_is}
use Rattle.rohc_context.proofs.state.StaticContext.promote.Goals as goal

pub returns-clause-taken : goal.returns-clause-taken
returns-clause-taken c =
    let reference = reference_of c.args.reference.now in
    let form = content c.in_ok-form.form in
    let accepted = c.in-Some.accepted in
    let a = acceptance_of form accepted in (
      a,
      judged c.args.self.now.fixed (λ x. static_tries reference) (said_under (header_of c.args.forward.now) reference) form _ c.in_ok-form.ensures.read c.in_ok-form.ensures.short
          (first_fits c.args.self.now.fixed reference form (explained_of accepted.header) a c.in-Some.ensures.fits
          (ap (λ r. record { content = form; reference = reference_of r; header = explained_of accepted.header }) c.in-Some.ensures.reference)),
      c.packet.ensures.head,
      c.packet.ensures.payload,
      promoted_is c.args.self.now.fixed (reference_of c.next_reference-next.result) (outcomes c.empty.result) a c.next_reference-next.ensures.reference c.empty.ensures.none,
      c.next_reference-next.ensures.reference,
    )

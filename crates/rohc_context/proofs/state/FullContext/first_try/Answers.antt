use Rattle.std.proofs.Common.{inl, refl}
use Rattle.rohc_frame.specs.Reading.{header_of}
use Rattle.rohc_forms.specs.Packets.{content}
use Rattle.rohc_context.specs.Record.{reference_of, previous_of}
use Rattle.rohc_context.specs.Tries.{full_tries}
use Rattle.rohc_context.specs.Update.{said_under}
use Rattle.rohc_context.proofs.UpdateLemmas.{judged, fault_misses, misses_by}
use Rattle.rohc_context.proofs.FirstTryLemmas.{accepted}
use Rattle.rohc_context.proofs.state.FullContext.first_try.Goals as goal

pub returns-in_default-clause-missed : goal.returns-in_default-clause-missed
returns-in_default-clause-missed c =
    let self = c.args.self.now in
    fault_misses self.fixed (reference_of self.reference) (said_under (header_of c.args.forward.now) (reference_of self.reference)) _ c.in_default.ensures.fault

pub returns-in_default-take_shifted-clause-missed : goal.returns-in_default-take_shifted-clause-missed
returns-in_default-take_shifted-clause-missed c =
    let self = c.args.self.now in
    misses_by self.fixed (reference_of self.reference) (said_under (header_of c.args.forward.now) (reference_of self.reference)) (content c.in-Ok.form) c.in-Ok.ensures.read c.in_default-take_shifted.ensures.misses

pub returns-clause-taken : goal.returns-clause-taken
returns-clause-taken c =
    let self = c.args.self.now in
    let held = reference_of self.reference in
    let t = c.in-Some.ensures.taken in (
      accepted held (content c.in-Ok.form) t.0.moving t.0.octets,
      λ s passed. judged self.fixed (full_tries s passed held (previous_of self)) (said_under (header_of c.args.forward.now) held) (content c.in-Ok.form) _
          c.in-Ok.ensures.read c.in-Ok.ensures.short (inl (t.0, t.1, refl)),
      t.2,
      refl,
      t.3,
    )

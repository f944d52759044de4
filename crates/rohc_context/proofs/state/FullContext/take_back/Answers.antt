use Rattle.std.proofs.Common.{false, refl, sym, subst, ap, inl, inr, ◌∙◌}
use Rattle.rohc_forms.specs.Packets.{content}
use Rattle.rohc_header.specs.Prepared.{IsPrepared}
use Rattle.rohc_context.specs.declared.fault.Fault.TheVariants.{Unfit}
use Rattle.rohc_context.specs.NextReference.{with_numbers}
use Rattle.rohc_context.specs.Record.{FullContext, reference_of}
use Rattle.rohc_context.specs.Previous.{fields_by}
use Rattle.rohc_context.specs.Tries.{Verdict}
use Rattle.rohc_context.specs.Window.{and_outcome, outcomes}
use Rattle.rohc_context.proofs.Registers.{kept_registers}
use Rattle.rohc_context.proofs.PreparedLemmas.{prepared_before, prepared_meant}
use Rattle.rohc_context.proofs.PreviousLemmas.{kept_as, numbered, held_before, third_is}
use Rattle.rohc_context.proofs.FirstTryLemmas.{accepted, follows, no_values}
use Rattle.std.specs.Prelude.{Ok, Err}
use Rattle.rohc_context.proofs.state.FullContext.take_back.Goals as goal

pub rebuild-requires-clause-registers : goal.rebuild-requires-clause-registers
rebuild-requires-clause-registers c =
    let context = c.args.self.now in
    let p = c.args.previous in
    let before = c.beside-before.result in
    let kept = kept_as context.fixed before.moving (fields_by context.reference.moving p) context.reference.saved p.saved
    c.beside-before.ensures.fields (sym (context.near p c.requires.previous c.requires.alike).saved) (context.kept_before p c.requires.previous) in
    kept_registers context.fixed (reference_of before) 0 (content c.args.form.now) c.meant-moving.result context.reference.saved
    c.meant-moving.ensures.means (no_values c.args.form.now.values c.requires.plain) kept.registers

pub rebuild-requires-clause-prepared : goal.rebuild-requires-clause-prepared
rebuild-requires-clause-prepared c =
    let context = c.args.self.now in
    let p = c.args.previous in
    let before = c.beside-before.result in
    prepared_meant context.fixed (reference_of before) 0 (content c.args.form.now) c.meant-moving.result context.prepared
    c.meant-moving.ensures.means (no_values c.args.form.now.values c.requires.plain)
    (subst (λ m. IsPrepared context.fixed m context.prepared) (sym c.beside-before.ensures.fields)
    (prepared_before context.fixed context.reference p context.prepared (context.near p c.requires.previous c.requires.alike) context.stays))

pub returns-in_default-clause-unfit : goal.returns-in_default-clause-unfit
returns-in_default-clause-unfit c =
    let third = third_is c.args.self.now c.args.previous c.beside-before.result (content c.args.form.now) c.requires.previous c.beside-before.ensures.fields
    c.beside-before.ensures.sum (sym c.is_short.ensures ∙ c.if-not-is_short.false) in
    let missed = c.in_default.ensures.misses in
    subst (λ ts. Verdict c.args.self.now.fixed (content c.args.form.now) ts (Err Unfit)) (sym third) (inr (
      record {
        header = record { moving = c.meant-moving.result; octets = missed.0 };
        explained = record { fields = c.meant-moving.ensures.means; octets = missed.1 };
        unchecked = missed.2;
      },
      refl,
    ))

pub returns-clause-taken : goal.returns-clause-taken
returns-clause-taken c =
    let self = c.args.self.now in
    let before = c.beside-before.result in
    let third = third_is c.args.self.now c.args.previous c.beside-before.result (content c.args.form.now) c.requires.previous c.beside-before.ensures.fields
    c.beside-before.ensures.sum (sym c.is_short.ensures ∙ c.if-not-is_short.false) in
    let moving = c.meant-moving.result in
    let fits = c.in-Some.ensures.fits in
    let taken = accepted (reference_of before) (content c.args.form.now) moving c.in-Some.head.items in
    let held = held_before self c.args.previous before c.requires.previous c.beside-before.ensures.fields c.beside-before.ensures.sum in
    let alike = ap (λ m. with_numbers m moving) c.beside-before.ensures.fields
    ∙ numbered self.reference c.args.previous moving (self.near c.args.previous c.requires.previous c.requires.alike) in (
      taken,
      subst (λ ts. Verdict self.fixed (content c.args.form.now) ts (Ok taken)) (sym third) (inl (taken.header, record { explained = record { fields = c.meant-moving.ensures.means; octets = fits.0 }; checked = fits.1 }, refl)),
      refl,
      refl,
      c.step_to.ensures
          ∙ ap (λ q. FullContext self.fixed (record { moving = with_numbers self.reference.moving moving; carries_sum = self.reference.carries_sum }) q (and_outcome false (outcomes self.windows.0))) held
          ∙ follows self.fixed (reference_of self.reference) (reference_of before) 0 (content c.args.form.now) moving c.in-Some.head.items (outcomes self.windows.0)
          (no_values c.args.form.now.values c.requires.plain) self.kept.unmarked c.beside-before.ensures.sum alike c.meant-moving.ensures.means,
    )

use Rattle.std.proofs.Common.{refl, ◌∙◌}
use Rattle.rohc_forms.specs.Packets.{content}
use Rattle.rohc_context.specs.Record.{reference_of}
use Rattle.rohc_context.specs.Window.{outcomes}
use Rattle.rohc_context.proofs.Registers.{kept_registers}
use Rattle.rohc_context.proofs.PreparedLemmas.{prepared_meant}
use Rattle.rohc_context.proofs.FirstTryLemmas.{follows, no_values}
use Rattle.rohc_context.proofs.state.FullContext.take_shifted.Goals as goal

pub rebuild-requires-clause-registers : goal.rebuild-requires-clause-registers
rebuild-requires-clause-registers c =
    let context = c.args.self.now in
    kept_registers context.fixed (reference_of context.reference) c.args.shift (content c.args.form.now) c.meant-moving.result context.reference.saved
    c.meant-moving.ensures.means (no_values c.args.form.now.values c.requires.plain) context.kept.registers

pub rebuild-requires-clause-prepared : goal.rebuild-requires-clause-prepared
rebuild-requires-clause-prepared c =
    let context = c.args.self.now in
    prepared_meant context.fixed (reference_of context.reference) c.args.shift (content c.args.form.now) c.meant-moving.result context.prepared
    c.meant-moving.ensures.means (no_values c.args.form.now.values c.requires.plain) context.stays

pub returns-in_default-clause-misses : goal.returns-in_default-clause-misses
returns-in_default-clause-misses c =
    let missed = c.in_default.ensures.misses in record {
      header = record { moving = c.meant-moving.result; octets = missed.0 };
      explained = record { fields = c.meant-moving.ensures.means; octets = missed.1 };
      unchecked = missed.2;
    }

pub returns-clause-taken : goal.returns-clause-taken
returns-clause-taken c =
    let self = c.args.self.now in
    let means = c.meant-moving.ensures.means in
    let fits = c.in-Some.ensures.fits in (
      record { moving = c.meant-moving.result; octets = c.in-Some.head.items },
      record { explained = record { fields = means; octets = fits.0 }; checked = fits.1 },
      refl,
      c.follow.ensures ∙ follows self.fixed (reference_of self.reference) (reference_of self.reference) c.args.shift (content c.args.form.now) c.meant-moving.result c.in-Some.head.items (outcomes self.windows.0)
          (no_values c.args.form.now.values c.requires.plain) self.kept.unmarked refl refl means,
    )

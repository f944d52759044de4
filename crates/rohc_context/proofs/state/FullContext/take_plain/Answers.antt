use Rattle.std.proofs.Common.{rules, ◌≡◌, inl, refl, ◌∙◌}
use Rattle.rohc_forms.specs.Packets.{content}
use Rattle.rohc_context.specs.declared.state.State.TheVariants.{Full}
use Rattle.rohc_context.specs.Record.{reference_of, state_of}
use Rattle.rohc_context.specs.Settings.{limits}
use Rattle.rohc_context.specs.Tries.{Misses, unshifted}
use Rattle.rohc_context.proofs.UpdateLemmas.{second_taken}
use Rattle.rohc_context.proofs.state.FullContext.take_plain.Goals as goal
use Rattle.rohc_context.proofs.state.FullContext.take_plain.Goals.{then-not-tried+in_default, else-not-tried}

pub returns-in-Some-clause-taken : goal.returns-in-Some-clause-taken
returns-in-Some-clause-taken c =
    let t = c.in-Some.ensures.taken in
    (record { content = content c.args.form.now; reference = reference_of c.args.self.now.reference; header = t.0 }, inl (t.0, t.1, refl), t.2, refl, t.3)

pub returns-clause-taken : goal.returns-clause-taken
returns-clause-taken c =
    let same : c.if-not-tried.self ≡ c.args.self.now = elim c.if-not-tried.branch [
      | then-not-tried+in_default w ↦ w.self-is ∙ w.in_default.ensures.stays
      | else-not-tried w ↦ w.self-is
    ] in
    let missed : Misses c.args.self.now.fixed (unshifted (reference_of c.args.self.now.reference)) (content c.args.form.now) = elim c.if-not-tried.branch [
      | then-not-tried+in_default w ↦ w.in_default.ensures.misses
      | else-not-tried w ↦ c.requires.missed (search rules)
    ] in
    second_taken (limits c.args.settings.now) c.args.passed c.args.self.now c.if-not-tried.self (content c.args.form.now) c.in-Some-second_shift.shift
    _ (state_of (Full c.take_shifted-2.new.self)) same missed c.in-Some-second_shift.ensures.tries c.in-Some-take_shifted.ensures.taken

pub returns-clause-repaired : goal.returns-clause-repaired
returns-clause-repaired c = elim c.if-not-tried.branch [
  | then-not-tried+in_default w ↦ w.in_default.ensures.misses
  | else-not-tried w ↦ c.requires.missed (search rules)
]

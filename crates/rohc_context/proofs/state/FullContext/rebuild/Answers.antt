use Rattle.std.proofs.Common.{length, sym, ap, ◌∙◌}
use Rattle.rohc_checks.specs.Division.{check, poly3, poly7}
use Rattle.rohc_header.specs.Check.{all_ones, static_octets}
use Rattle.rohc_context.proofs.Registers.{octets_three, octets_seven}
use Rattle.rohc_context.proofs.state.FullContext.rebuild.Goals as goal

pub check_of-requires-clause-three : goal.check_of-requires-clause-three
check_of-requires-clause-three c =
    let context = c.args.self.now in
    octets_three context.fixed c.args.moving.now (length c.args.form.now.payload.now) c.head_of-head.result.items context.reference.saved context.good c.head_of-head.ensures c.requires.registers
    ∙ ap (λ all. check poly3 (all_ones poly3) (static_octets all)) (sym c.as_slice.ensures.value)

pub check_of-requires-clause-seven : goal.check_of-requires-clause-seven
check_of-requires-clause-seven c =
    let context = c.args.self.now in
    octets_seven context.fixed c.args.moving.now (length c.args.form.now.payload.now) c.head_of-head.result.items context.reference.saved context.good c.head_of-head.ensures c.requires.registers
    ∙ ap (λ all. check poly7 (all_ones poly7) (static_octets all)) (sym c.as_slice.ensures.value)

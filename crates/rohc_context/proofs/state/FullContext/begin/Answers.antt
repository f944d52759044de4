use Rattle.std.proofs.Common.{rules, refl}
use Rattle.std.proofs.Common.{length}
use Rattle.rohc_context.proofs.Common.{some_holds}
use Rattle.rohc_context.proofs.Registers.{registers_of}
use Rattle.rohc_context.specs.Record.{reference_of}
use Rattle.rohc_context.proofs.PreparedLemmas.{prepared_first}
use Rattle.rohc_context.proofs.state.FullContext.begin.Goals as goal

pub invariant_of-context-clause-kept : goal.invariant_of-context-clause-kept
invariant_of-context-clause-kept c =
    c.first_reference.ensures.kept c.args.fixed c.requires.moving
    (registers_of c.args.fixed c.args.moving (length c.args.payload.now) c.unwrap-header.result.octets c.registers.result c.requires.fixed
    (some_holds c.with_prepared.result c.unwrap-header.result _ c.unwrap-header.ensures c.with_prepared.ensures.header)
    c.registers.ensures.three c.registers.ensures.seven)

pub returns : goal.returns
returns c = λ moment. (
  _,
  (c.unwrap-header.result.octets, some_holds c.with_prepared.result c.unwrap-header.result _ c.unwrap-header.ensures c.with_prepared.ensures.header, refl),
  search rules,
)

pub invariant_of-context-clause-kept_before : goal.invariant_of-context-clause-kept_before
invariant_of-context-clause-kept_before c = λ p e. cc

pub invariant_of-context-clause-stays : goal.invariant_of-context-clause-stays
invariant_of-context-clause-stays c =
    prepared_first c.args.fixed c.args.moving (reference_of c.first_reference.result) c.of-prepared.result c.first_reference.ensures.reference c.of-prepared.ensures

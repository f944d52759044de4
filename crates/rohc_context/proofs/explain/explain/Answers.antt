use Rattle.std.proofs.Common.{ap, length, option_map}
use Rattle.rohc_forms.specs.Packets.{content, values_by}
use Rattle.rohc_context.specs.Record.{reference_of}
use Rattle.rohc_context.proofs.Registers.{kept_registers, registers_of}
use Rattle.rohc_context.proofs.Common.{some_holds}
use Rattle.rohc_context.proofs.explain.explain.Goals as goal

pub returns-in-None-clause-registers : goal.returns-in-None-clause-registers
returns-in-None-clause-registers c =
    kept_registers c.args.fixed.now (reference_of c.args.reference.now) c.args.shift (content c.args.form.now) c.meant-moving.result c.args.reference.now.saved
    c.meant-moving.ensures.means (ap (option_map values_by) c.in-None.is) c.requires.kept.registers

pub returns-in-Some-clause-registers : goal.returns-in-Some-clause-registers
returns-in-Some-clause-registers c =
    registers_of c.args.fixed.now c.meant-moving.result (length c.args.form.now.payload.now) c.unwrap-header.result.octets c.registers-saved.result c.requires.good
    (some_holds c.build.result c.unwrap-header.result _ c.unwrap-header.ensures c.build.ensures.header)
    c.registers-saved.ensures.three c.registers-saved.ensures.seven

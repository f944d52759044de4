use Rattle.rohc_context.proofs.Common.{some_holds}
use Rattle.rohc_context.proofs.Registers.{registers_of}
use Rattle.rohc_context.proofs.restoring.registers.Goals as goal

pub returns : goal.returns
returns c =
    registers_of c.args.fixed.now c.args.moving.now 0 c.unwrap-header.result.octets c.registers.result c.requires.good
    (some_holds c.build.result c.unwrap-header.result _ c.unwrap-header.ensures c.build.ensures.header)
    c.registers.ensures.three c.registers.ensures.seven

use Rattle.std.proofs.Common.{length}
use Rattle.rohc_context.proofs.Registers.{octets_three, octets_seven}
use Rattle.rohc_context.proofs.shown.meant_by.Goals as goal

pub check_of-requires-clause-three : goal.check_of-requires-clause-three
check_of-requires-clause-three c =
    let h = c.explain-explained.result in
    octets_three c.args.fixed.now h.moving (length c.args.form.now.payload.now) h.header.octets h.saved c.requires.good c.explain-explained.ensures.explains.octets c.explain-explained.ensures.registers

pub check_of-requires-clause-seven : goal.check_of-requires-clause-seven
check_of-requires-clause-seven c =
    let h = c.explain-explained.result in
    octets_seven c.args.fixed.now h.moving (length c.args.form.now.payload.now) h.header.octets h.saved c.requires.good c.explain-explained.ensures.explains.octets c.explain-explained.ensures.registers

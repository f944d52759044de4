use Rattle.std.proofs.Common.{arith}
use Rattle.std.proofs.lemmas.Bool.Decides.{nat_tests}
use Rattle.std.proofs.Common.{length}
use Rattle.rohc_context.proofs.Registers.{octets_three, octets_seven}
use Rattle.rohc_context.proofs.tries.attempt.Goals as goal

pub check_of-requires-clause-three : goal.check_of-requires-clause-three
check_of-requires-clause-three c =
    let h = c.explain-explained.result in
    octets_three c.args.fixed.now h.moving (length c.args.form.now.payload.now) h.header.octets h.saved c.requires.good c.explain-explained.ensures.explains.octets c.explain-explained.ensures.registers

pub check_of-requires-clause-seven : goal.check_of-requires-clause-seven
check_of-requires-clause-seven c =
    let h = c.explain-explained.result in
    octets_seven c.args.fixed.now h.moving (length c.args.form.now.payload.now) h.header.octets h.saved c.requires.good c.explain-explained.ensures.explains.octets c.explain-explained.ensures.registers

pub returns-clause-fits : goal.returns-clause-fits
returns-clause-fits c = record { explained = c.explain-explained.ensures.explains; checked = grind (arith, nat_tests) }

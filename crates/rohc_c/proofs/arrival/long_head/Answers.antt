use Rattle.std.proofs.Common.{take_all, ◌∙◌, arith}
use Rattle.rohc_c.proofs.arrival.long_head.Goals as goal

pub returns : goal.returns
returns c = c.in-Some.ensures.cases.same ∙ take_all 40 c.args.head.now (omega (arith, c.requires))

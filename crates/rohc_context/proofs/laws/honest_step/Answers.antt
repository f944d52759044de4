use Rattle.rohc_context.proofs.StepLaws.{delivers_honest_packet, promotes_honest_packet}
use Rattle.rohc_context.proofs.laws.honest_step.Goals as goal

pub returns-clause-full : goal.returns-clause-full
returns-clause-full c = delivers_honest_packet

pub returns-clause-fixed : goal.returns-clause-fixed
returns-clause-fixed c = promotes_honest_packet

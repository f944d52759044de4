use Rattle.rohc_context.proofs.StepLaws.{delivers_written_packet, has_written}
use Rattle.rohc_context.proofs.laws.written_is_delivered.Goals as goal

pub returns-clause-delivered : goal.returns-clause-delivered
returns-clause-delivered c = delivers_written_packet

pub returns-clause-exists : goal.returns-clause-exists
returns-clause-exists c = has_written

use Rattle.std.proofs.Common.{arith}
use Rattle.std.proofs.lemmas.Grind.{common_steps}
use Rattle.rohc_outbox.proofs.OutboxLemmas.{length-datagrams}
use Rattle.rohc_outbox.proofs.outbox.Outbox.is_empty.Goals as goal

pub returns : goal.returns
returns c = grind (arith, common_steps, length-datagrams c.self.inside.heads.items c.self.inside.octets.items)

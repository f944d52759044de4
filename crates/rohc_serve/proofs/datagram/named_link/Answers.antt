use Rattle.std.proofs.Common.{rules}
use Rattle.rohc_serve.proofs.datagram.named_link.Goals as goal

pub returns-clause-named : goal.returns-clause-named
returns-clause-named c = search rules

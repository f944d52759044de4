use Rattle.std.proofs.Common.{rules}
use Rattle.rohc_serve.proofs.server.serve.Goals as goal

pub returns-clause-served : goal.returns-clause-served
returns-clause-served g c = search rules

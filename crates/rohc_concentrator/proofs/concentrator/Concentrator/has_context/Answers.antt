use Rattle.std.proofs.Common.{rules}
use Rattle.rohc_concentrator.proofs.concentrator.Concentrator.has_context.Goals as goal

pub returns-in-Some : goal.returns-in-Some
returns-in-Some c = search rules

use Rattle.std.proofs.Common.{rules}
use Rattle.rohc_concentrator.proofs.setup.SetupFault.name.Goals as goal

pub returns-in-TooManyLinks : goal.returns-in-TooManyLinks
returns-in-TooManyLinks c = search rules

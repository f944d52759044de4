use Rattle.std.proofs.Common.{rules}
use Rattle.rohc_context.proofs.refusal.Refusal.name.Goals as goal

pub returns-in-NoLink : goal.returns-in-NoLink
returns-in-NoLink c = search rules

use Rattle.std.proofs.Common.{rules}
use Rattle.rohc_forms.proofs.fields.behind.Goals as goal

pub returns-in-Some : goal.returns-in-Some
returns-in-Some c = search rules

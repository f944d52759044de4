use Rattle.std.proofs.Common.{rules}
use Rattle.rohc_links.proofs.fault.LinksFault.name.Goals as goal

pub returns-in-BadKey : goal.returns-in-BadKey
returns-in-BadKey c = search rules

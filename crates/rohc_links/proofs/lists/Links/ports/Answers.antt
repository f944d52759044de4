use Rattle.std.proofs.Common.{rules}
use Rattle.rohc_links.proofs.lists.Links.ports.Goals as goal

pub returns-clause-value : goal.returns-clause-value
returns-clause-value c = search rules

pub returns-clause-paired : goal.returns-clause-paired
returns-clause-paired c = search rules

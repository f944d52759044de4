use Rattle.std.proofs.Common.{rules}
use Rattle.rohc_links.proofs.lists.Links.settings.Goals as goal

pub returns : goal.returns
returns c = search rules

use Rattle.std.proofs.Common.{rules}
use Rattle.rohc_c.proofs.link.setting_of.Goals as goal

pub returns : goal.returns
returns c = search rules

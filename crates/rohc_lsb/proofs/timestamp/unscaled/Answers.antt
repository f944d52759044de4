use Rattle.std.proofs.Common.{rules}
use Rattle.rohc_lsb.proofs.timestamp.unscaled.Goals as goal

pub returns : goal.returns
returns c = search rules

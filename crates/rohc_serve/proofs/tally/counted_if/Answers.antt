use Rattle.std.proofs.Common.{rules}
use Rattle.rohc_serve.proofs.tally.counted_if.Goals as goal

pub returns : goal.returns
returns c = search rules

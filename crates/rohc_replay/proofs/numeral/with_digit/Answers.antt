use Rattle.std.proofs.Common.{rules}
use Rattle.rohc_replay.proofs.numeral.with_digit.Goals as goal

pub returns : goal.returns
returns c = search rules

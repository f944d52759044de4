use Rattle.std.proofs.Common.{rules}
use Rattle.rohc_lsb.proofs.identification.offset_meant.Goals as goal

pub returns-in-Some : goal.returns-in-Some
returns-in-Some c = search rules

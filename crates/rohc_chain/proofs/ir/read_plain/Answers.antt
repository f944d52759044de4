use Rattle.std.proofs.Common.{rules}
use Rattle.rohc_chain.proofs.ir.read_plain.Goals as goal

pub returns : goal.returns
returns c = search rules

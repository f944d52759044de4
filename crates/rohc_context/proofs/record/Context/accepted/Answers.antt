use Rattle.rohc_context.specs.Record.{record_of}
use Rattle.std.proofs.Common.{rules}
use Rattle.rohc_context.proofs.record.Context.accepted.Goals as goal

pub returns : goal.returns
unfolding record_of
returns c = search rules

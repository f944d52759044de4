use Rattle.std.proofs.Common.{rules}
use Rattle.rohc_context.specs.Record.{record_of}
use Rattle.rohc_context.proofs.record.Context.saved.Goals as goal

pub returns-in-Full : goal.returns-in-Full
unfolding record_of
returns-in-Full c = search rules

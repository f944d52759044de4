use Rattle.rohc_context.specs.Record.{record_of}
use Rattle.std.proofs.Common.{rules}
use Rattle.rohc_context.proofs.record.Context.state.Goals as goal

pub returns-in-Static : goal.returns-in-Static
unfolding record_of
returns-in-Static c = search rules

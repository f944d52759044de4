use Rattle.rohc_context.specs.Record.{record_of}
use Rattle.std.proofs.Common.{rules}
use Rattle.rohc_context.proofs.record.Context.end.Goals as goal

pub returns-in-Refused : goal.returns-in-Refused
unfolding record_of
returns-in-Refused c = search rules

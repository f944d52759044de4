use Rattle.rohc_context.specs.Record.{record_of}
use Rattle.std.proofs.Common.{rules}
use Rattle.rohc_context.proofs.record.Context.profile.Goals as goal

pub returns-in-Plain : goal.returns-in-Plain
unfolding record_of
returns-in-Plain c = search rules

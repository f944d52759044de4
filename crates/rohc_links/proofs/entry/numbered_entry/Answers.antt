use Rattle.std.proofs.Common.{rules}
use Rattle.rohc_links.proofs.entry.numbered_entry.Goals as goal

pub returns-in-Err : goal.returns-in-Err
returns-in-Err c = search rules

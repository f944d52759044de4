use Rattle.std.proofs.Common.{rules}
use Rattle.std.proofs.Common.{tests}
use Rattle.rohc_context.proofs.next.is_for_one_packet.Goals as goal

pub returns-then-matches : goal.returns-then-matches
returns-then-matches c = search (tests, rules)

pub returns-else-matches : goal.returns-else-matches
returns-else-matches c = search (tests, rules)

use Rattle.std.proofs.Common.{length}
use Rattle.rohc_c.proofs.taking_many.+are_within.Given as goal

abbrev pub decreases-are_within : goal.decreases-are_within
decreases-are_within l = length l.packets.now

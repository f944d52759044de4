use Rattle.std.proofs.Common.{length}
use Rattle.rohc_c.proofs.taking_many.+take_many.Given as goal

abbrev pub decreases-take_many : goal.decreases-take_many
decreases-take_many l = length l.packets.now

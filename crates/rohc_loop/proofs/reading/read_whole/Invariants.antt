use Rattle.std.proofs.Common.{◌+◌, ◌-◌, length}
use Rattle.rohc_world.specs.Acts.{Asks}
use Rattle.rohc_loop.specs.Reading.{AreReads}
use Rattle.rohc_loop.proofs.reading.read_whole.Given as goal

-- the reads so far returned these octets
abbrev pub invariant-loop-buffer : goal.invariant-loop-buffer
invariant-loop-buffer g l = Asks (g.W.Traced.acts l.fn.world) (g.W.Traced.acts l.world) (AreReads l.octets.items)

abbrev pub decreases-loop-buffer : goal.decreases-loop-buffer
decreases-loop-buffer g l = l.longest + 1 - length l.octets.items

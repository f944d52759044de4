use Rattle.std.proofs.Common.{◌-◌, ◌≤◌, length, drop}
use Rattle.rohc_world.specs.Acts.{Asks}
use Rattle.rohc_loop.specs.Saving.{Takes}
use Rattle.rohc_loop.proofs.saving.write_whole.Given as goal

-- the writes so far leave the octets from here on
abbrev pub invariant-loop-at : goal.invariant-loop-at
invariant-loop-at g l = record {
  within : l.at ≤ length l.octets;
  taken : Asks (g.W.Traced.acts l.fn.world) (g.W.Traced.acts l.world) (Takes l.octets (drop l.at l.octets));
}

abbrev pub decreases-loop-at : goal.decreases-loop-at
decreases-loop-at g l = length l.octets - l.at

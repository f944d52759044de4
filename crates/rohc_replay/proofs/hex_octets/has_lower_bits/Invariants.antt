use Rattle.std.proofs.Common.{length, ◌-◌, ◌≡◌, ◌≤◌, take, if◌then◌else◌}
use Rattle.std.specs.List.{list_all}
use Rattle.rohc_replay.specs.LowerCase.{has_lower_bit}
use Rattle.rohc_replay.proofs.hex_octets.has_lower_bits.Given as goal

-- the bit is left if all octets so far have it, and the last part starts among those or right after them
abbrev pub invariant-loop-at : goal.invariant-loop-at
invariant-loop-at l = record {
  within : l.at ≤ length l.text;
  common : l.common ≡ (if list_all has_lower_bit (take l.at l.text) then 32 else 0);
}

abbrev pub decreases-loop-at : goal.decreases-loop-at
decreases-loop-at l = length l.text - l.at

use Rattle.std.proofs.Common.{◌≡◌, take, if◌then◌else◌}
use Rattle.std.specs.List.{list_all}
use Rattle.rohc_replay.specs.LowerCase.{has_lower_bit}
use Rattle.rohc_replay.proofs.hex_octets.common_bit.Given as goal

-- the bit is left if all octets so far have it
abbrev pub invariant-loop-octet : goal.invariant-loop-octet
invariant-loop-octet l = l.common ≡ (if list_all has_lower_bit (take l.octet-index l.text) then 32 else 0)

use Rattle.std.proofs.Common.{length, ◌-◌, ◌<◌, ◌^◌, ◌≤◌, ◌≡◌, take}
use Rattle.std.specs.Str.Parse.{AllDigits, digits_value}
use Rattle.rohc_replay.proofs.numeral.read_great.Given as goal

-- the octets so far are digits of the number
abbrev pub invariant-loop-size : goal.invariant-loop-size
invariant-loop-size l = record {
  within : l.size ≤ length l.text;
  digits : AllDigits 10 (take l.size l.text);
  small : l.number < 2 ^ 64;
  value : digits_value 10 (take l.size l.text) ≡ l.number;
}

abbrev pub decreases-loop-size : goal.decreases-loop-size
decreases-loop-size l = length l.text - l.size

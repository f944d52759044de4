use Rattle.std.proofs.Common.{length, ◌-◌, ◌≤◌, ◌≡◌, take}
use Rattle.std.specs.Str.Parse.{AllDigits, digits_value}
use Rattle.rohc_replay.proofs.numeral.read_number.Given as goal

-- the octets so far are digits of the number
abbrev pub invariant-loop-size : goal.invariant-loop-size
invariant-loop-size l = record {
  within : l.size ≤ length l.text;
  few : l.size ≤ 19;
  digits : AllDigits 10 (take l.size l.text);
  value : digits_value 10 (take l.size l.text) ≡ l.number;
}

abbrev pub decreases-loop-size : goal.decreases-loop-size
decreases-loop-size l = length l.text - l.size

use Rattle.std.proofs.Common.{◌≡◌, ◌+◌, ◌≤◌, ◌<◌, ◌++◌, length, take}
use Rattle.std.specs.Prelude.{All}
use Rattle.rohc_frame.specs.Reading.{elements_of}
use Rattle.rohc_c.specs.Relay.{told}
use Rattle.rohc_c.proofs.relay.put_elements.Given as goal

abbrev pub invariant-loop-data : goal.invariant-loop-data
invariant-loop-data l = record {
  inside : l.at ≤ length l.place;
  same_place : length l.place ≡ length l.initial.place;
  counted : l.count + length (elements_of l.data-iterator) ≡ length (elements_of l.initial.elements);
  few : l.count ≤ l.at;
  octets : take l.at l.place ++ told (elements_of l.data-iterator) ≡ told (elements_of l.initial.elements);
  room : l.at + length (told (elements_of l.data-iterator)) ≤ length l.place;
  short : All (λ octets. length octets < 256) (elements_of l.data-iterator);
}

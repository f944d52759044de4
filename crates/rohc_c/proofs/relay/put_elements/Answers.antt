use Rattle.std.proofs.Common.{◌<◌, List, ℕ, ◌++◌, length, arith, ap, ◌∙◌, subst}
use Rattle.std.specs.Prelude.{All}
use Rattle.std.proofs.lemmas.List.Elements.{All-tail}
use Rattle.std.proofs.lemmas.List.{length-append}
use Rattle.rohc_frame.specs.Reading.{elements_of}
use Rattle.rohc_c.specs.Relay.{told}
use Rattle.rohc_c.proofs.RelayLemmas.{told_more}
use Rattle.rohc_c.proofs.relay.put_elements.Goals as goal

pub loop-data-preserved : goal.loop-data-preserved
loop-data-preserved c =
    let octets = c.in-Some.data.now in
    let rest = elements_of c.next.new.self in
    let split = c.in-Some.ensures.steps in
    let first = c.put_behind.ensures in
    let second = c.put_behind-in-loop-data.ensures in
    let before = c.loop-data.invariant in
    let lengths = ap (λ (es : List (List ℕ)). length (told es)) split in
    let more = length-append octets (told rest) in
    let count = ap (λ (es : List (List ℕ)). length es) split in
    let short = subst (All (λ (os : List ℕ). length os < 256)) split before.short in
    record {
      inside = omega (arith, before.room, lengths, more, first.len, second.len);
      same_place = omega (arith, before.same_place, first.len, second.len);
      counted = omega (arith, before.counted, count);
      few = omega (arith, before.few);
      octets = ap (λ (t : List ℕ). t ++ told rest) (second.put ∙ ap (λ (t : List ℕ). t ++ octets) first.put) ∙ told_more _ octets rest _ _ split before.octets;
      room = omega (arith, before.room, lengths, more, first.len, second.len);
      short = All-tail (λ (os : List ℕ). length os < 256) octets rest short;
    }

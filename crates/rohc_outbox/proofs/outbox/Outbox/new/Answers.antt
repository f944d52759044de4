use Rattle.std.proofs.Common.{ap, sym, ◌∙◌, ℕ, length, arith}
use Rattle.circular_buffer.specs.Buffer.{Buffer}
use Rattle.rohc_outbox.specs.declared.outbox.Waiting.{Waiting}
use Rattle.rohc_outbox.specs.Outbox.{count_to, lengths_of}
use Rattle.rohc_outbox.proofs.OutboxLemmas.{get_or-zeros, length-zeros}
use Rattle.rohc_outbox.proofs.outbox.Outbox.new.Goals as goal

pub invariant_of-result : goal.invariant_of-result
invariant_of-result c =
    let heads_are = c.in_ok-with_capacity.ensures in
    let octets_are = c.in_ok-with_capacity-2.ensures in
    let zeros = c.in_ok-vec.ensures.items_if_clones_equal (λ y e. e) in
    let no_heads = ap (λ (b : Buffer Waiting). length b.items) heads_are in
    let no_octets = ap (λ (b : Buffer ℕ). length b.items) octets_are in
    let no_lengths = ap (λ (b : Buffer Waiting). lengths_of b.items) heads_are in
    record {
      most = ap (λ (b : Buffer Waiting). b.capacity) heads_are;
      room = ap (λ (b : Buffer ℕ). b.capacity) octets_are;
      few = omega (arith, no_heads);
      fits = omega (arith, no_octets);
      lengths = no_octets ∙ sym no_lengths;
      ports = length-zeros _ _ zeros;
      counted = λ port below.
          let none = ap (λ (b : Buffer Waiting). count_to port b.items) heads_are in
          get_or-zeros _ _ port zeros below ∙ sym none;
    }

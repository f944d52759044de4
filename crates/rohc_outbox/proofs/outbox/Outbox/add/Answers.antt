use Rattle.std.proofs.Common.{◌≡◌, refl, ap, ◌∙◌, ℕ, List, [], ◌∷◌, ◌++◌, length, ◌<◌, ◌+◌, ◌≤◌, arith}
use Rattle.std.proofs.lemmas.List.{get_or_read}
use Rattle.std.proofs.lemmas.List.Sums.{count_by-le-length}
use Rattle.std.specs.Prelude.{◌==◌}
use Rattle.circular_buffer.specs.Buffer.{Buffer}
use Rattle.rohc_outbox.specs.declared.outbox.TheConstants.{MOST, ROOM}
use Rattle.rohc_outbox.specs.declared.outbox.Waiting.{Waiting}
use Rattle.rohc_outbox.specs.Outbox.{count_to, Datagram, datagram, datagrams, octets_of}
use Rattle.rohc_outbox.proofs.OutboxLemmas.{IsOutbox-push, datagrams-push, heads-push, octets-push, length-datagrams, octets_of-datagrams}
use Rattle.rohc_outbox.proofs.outbox.Outbox.add.Goals as goal
use Rattle.rohc_outbox.proofs.outbox.Outbox.add.Goals.{then-len-ge-MOST-via-then-len-ge-MOST, then-len-ge-MOST-via-else-len-ge-MOST+then-octets-len}

pub returns-then-len-ge-MOST-clause-room : goal.returns-then-len-ge-MOST-clause-room
returns-then-len-ge-MOST-clause-room c =
    let heads = c.self.inside.heads.items in
    let octets = c.self.inside.octets.items in
    let many = length-datagrams heads octets in
    let long = octets_of-datagrams heads octets c.self.invariant.lengths in
    let waiting = datagrams heads octets in
    let room : Type 0 = (length waiting < MOST) × (octets_of waiting + length c.args.octets.now ≤ ROOM) in
    let none : room → ⊥ = λ (few, fits). elim c.then-len-ge-MOST.branch [
      | then-len-ge-MOST-via-then-len-ge-MOST w ↦ omega (arith, many, few)
      | then-len-ge-MOST-via-else-len-ge-MOST+then-octets-len w ↦ omega (arith, long, fits)
    ] in
    rw (← c.self.view_is) ((λ e. absurd (cc)), (λ some. absurd (none some)))

pub overflow_add-index_mut : goal.overflow_add-index_mut
overflow_add-index_mut c =
    let counts = c.self.inside.counts.items in
    let heads = c.self.inside.heads.items in
    let read = get_or_read counts _ _ (omega (arith, c.self.invariant.ports)) c.index_mut.ensures.value 0 in
    let counted = c.self.invariant.counted c.args.to (omega arith) in
    let few = count_by-le-length (λ each. each.to == c.args.to) heads in
    let same : c.index_mut.result.now ≡ count_to c.args.to heads = cc in
    omega (arith, few, same)

pub invariant_of-self : goal.invariant_of-self
invariant_of-self c =
    let heads = c.self.inside.heads in
    let octets = c.self.inside.octets in
    let counts = c.self.inside.counts.items in
    let last : Waiting = record { from = c.args.from; to = c.args.to; length = length c.args.octets.now } in
    let more = c.args.octets.now in
    let heads_are = c.push_back.ensures.items ∙ heads-push heads last (omega arith) in
    let filled = octets-push octets more _ c.fill_from_slice.ensures.count (omega arith) in
    let octets_are = c.fill_from_slice.ensures.items ∙ filled in
    let read = get_or_read counts _ _ (omega (arith, c.self.invariant.ports)) c.index_mut.ensures.value 0 in
    rw (heads_are, octets_are, read, c.from.ensures)
    (IsOutbox-push heads octets counts c.self.invariant last more (omega arith) (omega arith) refl (omega arith))

pub returns-clause-room : goal.returns-clause-room
returns-clause-room c =
    let heads = c.self.inside.heads.items in
    let octets = c.self.inside.octets.items in
    let many = length-datagrams heads octets in
    let long = octets_of-datagrams heads octets c.self.invariant.lengths in
    rw (← c.self.view_is) ((λ e. (omega (arith, many), omega (arith, long))), (λ room. refl))

pub returns-clause-added : goal.returns-clause-added
returns-clause-added c =
    let heads = c.self.inside.heads in
    let octets = c.self.inside.octets in
    let last : Waiting = record { from = c.args.from; to = c.args.to; length = length c.args.octets.now } in
    let more = c.args.octets.now in
    let heads_are = c.push_back.ensures.items ∙ heads-push heads last (omega arith) in
    let filled = octets-push octets more _ c.fill_from_slice.ensures.count (omega arith) in
    let octets_are = c.fill_from_slice.ensures.items ∙ filled in
    ap (λ (b : Buffer Waiting). datagrams b.items c.fill_from_slice.new.self.items) heads_are
    ∙ ap (λ (b : Buffer ℕ). datagrams (heads.items ++ last ∷ []) b.items) octets_are
    ∙ datagrams-push heads.items octets.items last more c.self.invariant.lengths refl
    ∙ ap (λ (xs : List Datagram). xs ++ datagram c.args.from c.args.to more ∷ []) c.self.view_is

use Rattle.std.proofs.Common.{◌≡◌, ap, sym, ◌∙◌, drop, get_or, length-take-le, arith}
use Rattle.std.proofs.lemmas.List.{get_or_read}
use Rattle.rohc_outbox.proofs.OutboxLemmas.{IsOutbox-pop, heads-split, first-fits, first-counted}
use Rattle.rohc_outbox.proofs.outbox.Outbox.take.Goals as goal

pub overflow_sub-index_mut : goal.overflow_sub-index_mut
overflow_sub-index_mut c =
    let heads = c.self.inside.heads in
    let counts = c.self.inside.counts.items in
    let first = c.in_ok-head.head in
    let split = heads-split heads.items first (sym c.pop_front.ensures.value ∙ c.in_ok-head.was) in
    let read = get_or_read counts _ _ (omega (arith, c.self.invariant.ports)) c.index_mut.ensures.value 0 in
    let rest = drop 1 heads.items in
    let counted = first-counted heads c.self.inside.octets counts c.self.invariant first rest split (omega arith) in
    omega (arith, read, counted, ap (λ n. get_or counts n 0) c.from.ensures)

pub invariant_of-self-2 : goal.invariant_of-self-2
invariant_of-self-2 c =
    let heads = c.self.inside.heads in
    let octets = c.self.inside.octets in
    let counts = c.self.inside.counts.items in
    let first = c.in_ok-head.head in
    let split = heads-split heads.items first (sym c.pop_front.ensures.value ∙ c.in_ok-head.was) in
    let fits = first-fits heads octets counts c.self.invariant first (drop 1 heads.items) split in
    let front = length-take-le first.length c.args.buffer.now (omega (arith, c.self.invariant.fits)) in
    let taken : c.read_into.result ≡ first.length = omega (arith, front, fits, c.read_into.ensures.count) in
    let read = get_or_read counts _ _ (omega (arith, c.self.invariant.ports)) c.index_mut.ensures.value 0 in
    rw (c.pop_front.ensures.items, c.read_into.ensures.items, taken, read, c.from.ensures)
    (IsOutbox-pop heads octets counts c.self.invariant first (drop 1 heads.items) split (omega arith))

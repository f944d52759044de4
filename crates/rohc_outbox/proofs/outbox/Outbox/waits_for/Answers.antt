use Rattle.std.proofs.Common.{◌≡◌, arith, lt-ltb, ltb-true}
use Rattle.std.proofs.lemmas.List.{get_or_read}
use Rattle.rohc_outbox.specs.Outbox.{count_to}
use Rattle.rohc_outbox.proofs.OutboxLemmas.{any_from_count, count_from_any}
use Rattle.rohc_outbox.proofs.outbox.Outbox.waits_for.Goals as goal

pub returns : goal.returns
returns c =
    let octets = c.self.inside.octets.items in
    let heads = c.self.inside.heads.items in
    let counts = c.self.inside.counts.items in
    let read = get_or_read counts _ _ (omega (arith, c.self.invariant.ports)) c.index.ensures 0 in
    let counted = c.self.invariant.counted c.args.port (omega arith) in
    let same : c.index.result.now ≡ count_to c.args.port heads = cc in
    rw (← c.self.view_is) (
      (λ some. any_from_count c.args.port heads octets (omega (arith, same, ltb-true _ _ some))),
      (λ (k, waiting, within, at, to).
          let some = count_from_any c.args.port heads octets k waiting within at to in
          lt-ltb _ _ (omega (arith, same, some))),
    )

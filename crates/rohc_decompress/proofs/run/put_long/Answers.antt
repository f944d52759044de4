use Rattle.std.proofs.Common.{◌≡◌, ℕ, List, arith, sym, ◌∙◌, ap, ◌++◌, length, take}
use Rattle.std.proofs.lemmas.List.{length-take-le, take_all}
use Rattle.rohc_capture.specs.Written.{frame_record}
use Rattle.rohc_decompress.specs.Cut.{shown}
use Rattle.rohc_decompress.proofs.run.put_long.Goals as goal

pub slice_bounds-head-end : goal.slice_bounds-head-end
slice_bounds-head-end c =
    sym (length-take-le 40 c.as_slice.result.now (omega (arith, ap length c.as_slice.ensures.value, c.requires)))

pub returns-clause-put : goal.returns-clause-put
returns-clause-put c =
    let head = c.as_slice.result.now in
    let bulk = c.args.bulk.now in
    let record_of : List ℕ → List ℕ → List ℕ = λ front payload. c.args.batch.now ++ frame_record bulk.format c.args.nanos (front ++ payload) in
    let whole : take 40 head ≡ c.args.long.now.head.items =
    take_all 40 head (omega (arith, ap length c.as_slice.ensures.value, c.requires)) ∙ c.as_slice.ensures.value in
    λ is. c.put_record.ensures.put is
    ∙ ap (λ payload. record_of (take 40 head) payload) c.shown-payload.ensures
    ∙ ap (λ front. record_of front (shown bulk.padded front c.args.long.now.payload.now)) whole

use Rattle.std.proofs.Common.{arith, length, take, ◌++◌, ◌+◌, ap, ◌∙◌}
use Rattle.std.proofs.lemmas.List.{length-append}
use Rattle.rohc_c.proofs.PayloadLemmas.{packet_stands}
use Rattle.rohc_c.proofs.arrival.put_packet.Goals as goal

pub returns : goal.returns
returns c =
    let head = c.as_slice-head.result.now in
    let payload = c.args.delivered.now.payload.now in
    let value = c.as_slice-head.ensures.value in
    let long = length-append c.args.delivered.now.head.items payload in (
      omega (arith, ap length value, long),
      ap (take (length head + length payload)) c.put_head.ensures
          ∙ packet_stands c.args.place.now c.put_payload.new.place head payload (omega (arith, c.as_slice-head.ensures.fits, c.requires)) c.put_payload.ensures.put
          ∙ ap (λ l. l ++ payload) value,
    )

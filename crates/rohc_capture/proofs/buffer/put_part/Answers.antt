use Rattle.std.proofs.Common.{◌≡◌, ◌+◌, ◌++◌, length, take, drop, arith, sym, ◌∙◌, ap}
use Rattle.rohc_capture.proofs.BufferLemmas.{part-length}
use Rattle.rohc_capture.proofs.buffer.put_part.Goals as goal

pub returns-clause-put : goal.returns-clause-put
returns-clause-put c =
    let octets = c.args.octets.now in
    let place = c.args.place in
    let part : c.part_at-part.result ≡ take 16 (drop place octets) = c.part_at-part.ensures in
    let size : length c.part_at-part.result ≡ 16 = ap length part ∙ part-length octets place c.requires.part in
    let end : c.put_at.result ≡ c.args.used + place + 16 = omega (arith, c.put_at.ensures.used, size) in
    ap (λ n. take n c.put_at.new.cells) (sym end) ∙ c.put_at.ensures.put ∙ ap (λ l. take (c.args.used + place) c.args.cells.now ++ l) part

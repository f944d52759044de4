use Rattle.std.proofs.Common.{◌≡◌, length, take, drop, ◌+◌, arith, ap, ◌∙◌}
use Rattle.std.proofs.lemmas.List.{length-drop, length-take-le}
use Rattle.std.proofs.lemmas.Slice.{take-put_mid}
use Rattle.rohc_c.proofs.PayloadLemmas.{part_written}
use Rattle.rohc_c.proofs.payload.put_part.Goals as goal

pub returns-clause-put : goal.returns-clause-put
returns-clause-put c = λ done less held.
    let behind = drop c.args.from c.args.payload.now in
    let part : c.copy_from_slice.new.self ≡ take 16 behind = c.copy_from_slice.ensures.after ∙ c.part_after-part.ensures in
    let long = ap length part ∙ length-take-le 16 behind (omega (arith, length-drop c.args.from c.args.payload.now, c.requires.octets)) in
    take-put_mid (c.args.at + c.args.from) _ c.args.place.now c.copy_from_slice.new.self (c.args.at + (c.args.from + 16)) (omega (arith, long)) (omega (arith, c.requires.room))
    ∙ part_written c.args.place.now c.args.payload.now _ c.args.at c.args.from done 16 (omega (arith, c.requires.room)) less part held

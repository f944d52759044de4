use Rattle.std.proofs.Common.{length, drop, ◌-◌, ◌+◌, arith, ◌∙◌}
use Rattle.std.proofs.lemmas.List.{length-drop, length-take-le}
use Rattle.std.proofs.lemmas.Slice.{drop-put_mid}
use Rattle.rohc_bits.proofs.place.put_behind.Goals as goal

pub returns-clause-behind : goal.returns-clause-behind
returns-clause-behind c =
    let count = c.args.at + length c.args.octets.now - c.args.at in
    let long = c.copy_from_slice.ensures.len ∙ length-take-le count (drop c.args.at c.args.place.now) (omega (arith, length-drop c.args.at c.args.place.now, c.requires.room)) in
    drop-put_mid c.args.at count c.args.place.now c.copy_from_slice.new.self (c.args.at + length c.args.octets.now) (omega arith) (omega (arith, c.requires.room)) long

use Rattle.std.proofs.Common.{rules}
use Rattle.rohc_bits.proofs.Widths.{joined_fits, joined_below}
use Rattle.rohc_bits.proofs.Appended.{appended}
use Rattle.rohc_bits.proofs.bits.Bits.append.Goals as goal

pub new-requires-clause-fits : goal.new-requires-clause-fits
new-requires-clause-fits c = search (rules, joined_fits)

pub returns-clause-bits : goal.returns-clause-bits
returns-clause-bits c =
    let own = c.args.self in
    let whole = joined_below own.value c.args.value own.count c.args.count own.fits c.requires.fits in
    appended c.new.result.value c.new.result.count own.value own.count c.args.value c.args.count (search rules) (search rules) whole c.requires.fits

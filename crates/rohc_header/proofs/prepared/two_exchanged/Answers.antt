use Rattle.std.proofs.Common.{length, ◌≡◌, rules, arith}
use Rattle.rohc_header.proofs.HeaderSum.{two}
use Rattle.rohc_header.proofs.prepared.two_exchanged.Goals as goal

pub returns-clause-rest : goal.returns-clause-rest
returns-clause-rest c =
    let four : length c.args.octets.now ≡ 4 = search rules in
    omega (arith, two c.args.octets.now four, c.from_le_bytes.ensures, c.from.ensures, c.from_le_bytes-2.ensures, c.from-2.ensures)

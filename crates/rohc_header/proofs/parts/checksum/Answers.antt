use Rattle.std.proofs.Common.{◌+◌, ◌++◌, arith}
use Rattle.rohc_header.specs.Original.{flag, ip_front, addresses}
use Rattle.rohc_checks.specs.Sum.{words}
use Rattle.rohc_header.proofs.HeaderSum.{front, staying}
use Rattle.rohc_header.proofs.parts.checksum.Goals as goal

pub returns : goal.returns
returns c =
    let fixed = c.args.fixed.now in
    let moving = c.args.moving.now in
    let df = flag moving.df 64 in
    let same = front moving.tos (40 + c.args.payload_len) moving.id df moving.ttl (addresses fixed) in
    c.sum_of_exchanged.ensures
    (words (ip_front moving c.args.payload_len ++ addresses fixed))
    (omega (arith, same))
    (omega (
      arith,
      same,
      staying moving.tos df moving.ttl (addresses fixed),
      c.requires.prepared.rest,
      c.from.ensures,
      c.exchanged.ensures.rest,
      c.exchanged-2.ensures.rest,
    ))

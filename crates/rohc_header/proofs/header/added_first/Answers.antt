use Rattle.std.proofs.Common.{ap, ◌∙◌, arith}
use Rattle.std.specs.Int.Bits.{bit_xor}
use Rattle.rohc_header.proofs.SevenBits.{low_octet}
use Rattle.rohc_header.proofs.header.added_first.Goals as goal

pub returns : goal.returns
returns c =
    ap (bit_xor c.word.result) c.from.ensures ∙ low_octet c.args.first c.args.second c.args.reg c.word.result (omega arith) (omega (arith, c.requires)) c.word.ensures

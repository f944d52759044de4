use Rattle.std.proofs.Common.{ap, ◌∙◌, arith}
use Rattle.std.specs.Int.{w16, from_le_bytes}
use Rattle.rohc_checks.proofs.Totals.{header_sum-exchanged}
use Rattle.rohc_checks.proofs.sum.sum_of_exchanged.Goals as goal

pub returns : goal.returns
returns c = λ all some same.
    c.from_le_bytes.ensures
    ∙ ap (from_le_bytes w16) c.to_be_bytes.ensures
    ∙ header_sum-exchanged c.args.total c.with_carries.result all (c.with_carries.ensures.some c.requires.some) (omega arith) c.with_carries.ensures.rest some same

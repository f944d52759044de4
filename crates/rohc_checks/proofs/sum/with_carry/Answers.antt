use Rattle.std.proofs.Common.{arith}
use Rattle.rohc_checks.proofs.Totals.{header_sum-plain, header_sum-carried}
use Rattle.rohc_checks.proofs.sum.with_carry.Goals as goal

pub returns-then-carry : goal.returns-then-carry
returns-then-carry c =
    let over = rw c.if-carry.true at c.overflowing_add-sum.ensures.overflow in
    λ others. header_sum-carried c.args.total c.args.word _ others (omega arith) (omega (arith, c.overflowing_add-sum.ensures.value))

pub returns-else-carry : goal.returns-else-carry
returns-else-carry c =
    let within = rw c.if-carry.false at c.overflowing_add-sum.ensures.overflow in
    λ others. header_sum-plain c.args.total c.args.word _ others (omega (arith, c.overflowing_add-sum.ensures.value))

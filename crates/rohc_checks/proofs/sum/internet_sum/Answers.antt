use Rattle.std.proofs.Common.{◌∙◌, arith}
use Rattle.rohc_checks.specs.Sum.{words}
use Rattle.rohc_checks.proofs.Totals.{header_sum-zero, header_sum-turn, header_sum-last, header_sum-end}
use Rattle.rohc_checks.proofs.sum.internet_sum.Goals as goal

pub loop-left-init : goal.loop-left-init
loop-left-init c = record { fits = omega arith; whole = header_sum-zero (words c.args.octets.now) }

pub loop-left-preserved : goal.loop-left-preserved
loop-left-preserved c =
    let before = c.loop-left.invariant in
    record {
      fits = c.with_carry-total.type_inv;
      whole = header_sum-turn c.loop-left.left.now _ _ _ c.in-len2-up.len_at_least c.from_be_bytes.ensures c.with_carry-total.ensures ∙ before.whole;
    }

pub returns-in-len1-up : goal.returns-in-len1-up
returns-in-len1-up c =
    header_sum-last c.loop-left.left.now _ _ _ (omega arith) c.from_be_bytes-in-len1-up.ensures c.with_carry.type_inv c.with_carry.ensures ∙ c.loop-left.invariant.whole

pub returns-in-empty : goal.returns-in-empty
returns-in-empty c =
    header_sum-end c.loop-left.left.now _ (omega arith) c.loop-left.invariant.fits ∙ c.loop-left.invariant.whole

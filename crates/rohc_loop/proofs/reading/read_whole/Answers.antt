use Rattle.std.proofs.Common.{arith, rules}
use Rattle.rohc_loop.proofs.ReadLemmas.{ends_whole, ends_failed}
use Rattle.rohc_loop.proofs.reading.read_whole.Goals as goal

pub returns-in-Ok-false : goal.returns-in-Ok-false
returns-in-Ok-false g c =
    ends_whole _ _ _ c.args.longest c.loop-buffer.octets.items c.read_more.new.octets c.in-Ok-false.field-0 c.in-Ok-false.field-0-test
    c.loop-buffer.invariant c.in-Ok-false.ensures (first_of (search rules, grind arith))

pub returns-in-Err : goal.returns-in-Err
returns-in-Err g c =
    ends_failed _ _ _ c.args.longest c.loop-buffer.octets.items c.read_more.new.octets.items c.in-Err.reason
    c.loop-buffer.invariant c.in-Err.ensures

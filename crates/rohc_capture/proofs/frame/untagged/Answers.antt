use Rattle.std.proofs.Common.{rules, arith}
use Rattle.rohc_capture.proofs.FrameLemmas.{untagged_step, untagged_none}
use Rattle.rohc_capture.proofs.frame.untagged.Goals as goal

-- no EtherType is there
pub returns-in_err-kind : goal.returns-in_err-kind
returns-in_err-kind c = rw (← c.loop.invariant, untagged_step c.args.most c.loop.counter c.loop.vlan c.loop.rest.now c.loop-test.true) (search rules)

-- it is no tag
pub returns-then-not-is_tag : goal.returns-then-not-is_tag
returns-then-not-is_tag c = rw (← c.loop.invariant, untagged_step c.args.most c.loop.counter c.loop.vlan c.loop.rest.now c.loop-test.true) (search rules)

-- a tag is cut off
pub returns-in_err-tag : goal.returns-in_err-tag
returns-in_err-tag c = rw (← c.loop.invariant, untagged_step c.args.most c.loop.counter c.loop.vlan c.loop.rest.now c.loop-test.true) (search rules)

-- a tag
pub loop-preserved : goal.loop-preserved
loop-preserved c = rw (← c.loop.invariant, untagged_step c.args.most c.loop.counter c.loop.vlan c.loop.rest.now c.loop-test.true) (search rules)

-- there are too many
pub returns : goal.returns
returns c = rw (← c.loop.invariant, untagged_none c.args.most c.loop.counter c.loop.vlan c.loop.rest.now (omega (arith, c.loop-test.false))) (search rules)

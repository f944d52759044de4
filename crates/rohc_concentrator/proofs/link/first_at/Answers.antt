use Rattle.std.proofs.Common.{rules, inl}
use Rattle.rohc_concentrator.proofs.OrderLemmas.{order_after_none}
use Rattle.rohc_concentrator.proofs.link.first_at.Goals as goal

pub returns-in-Some-clause-order : goal.returns-in-Some-clause-order
returns-in-Some-clause-order c =
    order_after_none c.args.records.now.contexts c.insert.new.self c.args.forward.now.cid c.in-Ok.made.0 c.requires.none (search rules)

pub returns-in_default-clause-order : goal.returns-in_default-clause-order
returns-in_default-clause-order c =
    order_after_none c.args.records.now.contexts c.insert.new.self c.args.forward.now.cid c.in-Ok.made.0 c.requires.none (search rules)

pub returns-in-Err-clause-own : goal.returns-in-Err-clause-own
returns-in-Err-clause-own c = rw (c.refused.ensures, c.requires.none) (inl (rw c.settings_of-settings.ensures at c.in-Err.ensures.refusal))

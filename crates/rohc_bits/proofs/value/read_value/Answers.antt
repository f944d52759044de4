use Rattle.std.proofs.Common.{rules, arith}
use Rattle.std.proofs.lemmas.Grind.{common_steps}
use Rattle.rohc_bits.proofs.Arithmetic.{by_reckoning, each_front}
use Rattle.rohc_bits.proofs.value.read_value.Goals as goal

pub returns-in-224-to-255-clause-spelled : goal.returns-in-224-to-255-clause-spelled
returns-in-224-to-255-clause-spelled c = by_reckoning _ _ (record { octets = grind (arith, common_steps); spells = grind (arith, common_steps) })

pub returns-in-224-to-255-clause-every : goal.returns-in-224-to-255-clause-every
returns-in-224-to-255-clause-every c = each_front _ _ (grind (arith, common_steps))

pub returns-in-192-to-223-clause-spelled : goal.returns-in-192-to-223-clause-spelled
returns-in-192-to-223-clause-spelled c = by_reckoning _ _ (record { octets = grind (arith, common_steps); spells = grind (arith, common_steps) })

pub returns-in-192-to-223-clause-every : goal.returns-in-192-to-223-clause-every
returns-in-192-to-223-clause-every c = each_front _ _ (grind (arith, common_steps))

pub returns-in-128-to-191-clause-spelled : goal.returns-in-128-to-191-clause-spelled
returns-in-128-to-191-clause-spelled c = by_reckoning _ _ (record { octets = grind (arith, common_steps); spells = grind (arith, common_steps) })

pub returns-in-128-to-191-clause-every : goal.returns-in-128-to-191-clause-every
returns-in-128-to-191-clause-every c = each_front _ _ (grind (arith, common_steps))

pub returns-in-0-to-127-clause-spelled : goal.returns-in-0-to-127-clause-spelled
returns-in-0-to-127-clause-spelled c = by_reckoning _ _ (search rules)

pub returns-in-0-to-127-clause-every : goal.returns-in-0-to-127-clause-every
returns-in-0-to-127-clause-every c = each_front _ _ (search rules)

pub returns-in_default-2-clause-every : goal.returns-in_default-2-clause-every
returns-in_default-2-clause-every c = each_front _ _ (search rules)

pub returns-in_default-3-clause-every : goal.returns-in_default-3-clause-every
returns-in_default-3-clause-every c = each_front _ _ (search rules)

pub returns-in_default-4-clause-every : goal.returns-in_default-4-clause-every
returns-in_default-4-clause-every c = each_front _ _ (search rules)

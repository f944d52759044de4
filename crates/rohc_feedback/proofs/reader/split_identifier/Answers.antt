use Rattle.std.proofs.Common.{◌+◌, [], ◌∷◌, Some, ap, refl, arith, rules}
use Rattle.rohc_feedback.proofs.LargeIdentifier.{behind_front, read_some, read_identifier, read_within}
use Rattle.rohc_feedback.proofs.SmallIdentifier.{small_is, split_small}
use Rattle.rohc_feedback.proofs.reader.split_identifier.Goals as goal

pub returns-in_err-value-in-Large-clause-every : goal.returns-in_err-value-in-Large-clause-every
returns-in_err-value-in-Large-clause-every c = λ cid feedback fits begins is.
    absurd (read_some c.read_value.result c.args.octets.now feedback cid c.read_value.ensures.every (rw c.in-Large.is at fits) (rw c.in-Large.is at is) c.in_err-value-in-Large.was)

pub returns-else-value-from-clause-every : goal.returns-else-value-from-clause-every
returns-else-value-from-clause-every c = λ cid feedback fits begins is.
    read_identifier c.read_value.result c.args.octets.now feedback cid _ _ c.read_value.ensures.every (rw c.in-Large.is at fits) (rw c.in-Large.is at is) c.in_ok-value-in-Large.was

pub returns-then-value-from-clause-every : goal.returns-then-value-from-clause-every
returns-then-value-from-clause-every c = λ cid feedback fits begins is.
    let within = read_within c.read_value.result c.args.octets.now feedback cid _ _ c.read_value.ensures.every (rw c.in-Large.is at fits) (rw c.in-Large.is at is) c.in_ok-value-in-Large.was in
    let greatest = rw c.in-Large.is at c.greatest_cid.ensures in
    absurd (omega (arith, within, greatest, c.if-value-from.true))

pub returns-in-225-to-239-clause-every : goal.returns-in-225-to-239-clause-every
returns-in-225-to-239-clause-every c = λ cid feedback fits begins is.
    let front = split_small cid c.from.result c.args.octets.now feedback (rw c.in-Small.is at fits) (search rules) begins (rw c.in-Small.is at is) c.from.ensures in
    let behind = behind_front c.args.octets.now ((224 + cid) ∷ []) feedback 1 front.1 refl in
    ap Some (λ i. (front.0 i, behind i))

pub returns-in_default-clause-every : goal.returns-in_default-clause-every
returns-in_default-clause-every c = λ cid feedback fits begins is.
    let plain = small_is cid c.args.octets.now feedback (rw c.in-Small.is at fits) (rw c.in-Small.is at is) in
    search rules

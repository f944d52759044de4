use Rattle.std.proofs.Common.{ap, length, get_or, List, ℕ, arith}
use Rattle.rohc_replay.proofs.NumeralLemmas.{number_unique}
use Rattle.rohc_replay.proofs.words.read_field.Goals as goal

pub returns-in_err-space-clause-none : goal.returns-in_err-space-clause-none
returns-in_err-space-clause-none c = rw c.from_residual-in_err-space.ensures (λ number rest h.
    let same = number_unique c.args.text.now _ _ _ _ c.in_ok-number.ensures.read h in
    omega (arith, ap length same.1, c.in_err-space.ensures.cases))

pub returns-else-space-eq32-clause-none : goal.returns-else-space-eq32-clause-none
returns-else-space-eq32-clause-none c number rest h =
    let same = number_unique c.args.text.now _ _ _ _ c.in_ok-number.ensures.read h in
    let first = λ (l : List ℕ). get_or l 0 0 in
    omega (arith, ap first same.1, ap first c.in_ok-space.ensures.cases.0)

use Rattle.std.proofs.Common.{ℕ, List, length, arith, ap}
use Rattle.rohc_station.proofs.CallLemmas.{reset_empties}
use Rattle.rohc_station.proofs.station.reset_link.Goals as goal

pub returns-clause-gone : goal.returns-clause-gone
returns-clause-gone c =
    let none = ap (λ (cids : List ℕ). length cids) (reset_empties c.args.concentrator.now c.reset.new.self c.args.link c.in_ok-reset.ensures.event) in
    omega (arith, none, c.context_count-count.ensures)

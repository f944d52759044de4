use Rattle.std.proofs.Common.{◌≡◌, ◌+◌, take, arith, [], List, ℕ, get_or, Bor}
use Rattle.std.proofs.lemmas.List.{take_more}
use Rattle.rohc_text.specs.Nearest.{edits}
use Rattle.rohc_text.proofs.NearestLemmas.{nearest_on}
use Rattle.rohc_text.proofs.nearest.nearest_name.Goals as goal

pub loop-known-preserved : goal.loop-known-preserved
loop-known-preserved c =
    let known = c.args.names.now in
    let place = c.loop-known.known-index in
    let none : Bor (List ℕ) = record { ref_ptr = (0, 0); now = [] } in
    let one = get_or known place none in
    let e_is : c.in_ok-edits.edits ≡ edits c.args.name.now one.now = c.in_ok-edits.ensures.value in
    let found = nearest_on (λ other. other.now) c.args.name.now (take place known) (take (place + 1) known) one c.loop-known.nearest c.loop-known.least c.in_ok-edits.edits c.nearer-fewest.result
    (take_more known place none (omega arith)) c.loop-known.invariant.least e_is c.nearer-fewest.ensures c.loop-known.invariant.nearest in
    record { nearest = found.0; least = found.1 }

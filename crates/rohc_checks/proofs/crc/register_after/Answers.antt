use Rattle.std.proofs.Common.{◌<◌, get_or, arith, sym, ◌∙◌}
use Rattle.std.proofs.lemmas.List.{at_drop_all}
use Rattle.rohc_checks.specs.Division.{check}
use Rattle.rohc_checks.proofs.Division.{check-turn, check-nil}
use Rattle.rohc_checks.proofs.crc.register_after.Goals as goal

-- the octet at the loop's index is looked up
pub loop-octet-preserved : goal.loop-octet-preserved
loop-octet-preserved c = λ poly narrow spelled within.
    let loop = c.loop-octet in
    let octets = c.args.octets.now in
    let before = loop.invariant poly narrow spelled within in
    let small : get_or octets loop.octet-index 0 < 256 = omega (arith, c.type_inv.octets loop.octet-index) in
    let turn = check-turn poly loop.register octets loop.octet-index narrow before.0 (omega arith) small in
    rw (spelled, c.from.ensures) (turn.0, turn.1 ∙ before.1)

-- no octet is left
pub returns : goal.returns
returns c = λ poly narrow spelled within.
    let loop = c.loop-octet in
    let before = loop.invariant poly narrow spelled within in
    sym (check-nil poly loop.register before.0) ∙ sym (at_drop_all (check poly loop.register) c.args.octets.now loop.octet-index (omega arith)) ∙ before.1

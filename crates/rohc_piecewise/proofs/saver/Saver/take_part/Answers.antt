use Rattle.std.proofs.Common.{◌++◌, take, drop, arith}
use Rattle.rohc_piecewise.specs.declared.saver.Stage.TheVariants.{Waiting}
use Rattle.rohc_piecewise.proofs.UnderLemmas.{under_at, at_under, waits_by, taken_by, part_is}
use Rattle.rohc_piecewise.proofs.saver.Saver.take_part.Goals as goal

pub returns-then-self-len-clause-taken : goal.returns-then-self-len-clause-taken
returns-then-self-len-clause-taken c moment heads seen taken stage h =
    let old = c.args.self.now in
    let is = part_is c.front_of-part.result.now c.piece_from.result.now c.as_slice.result.now old.ready.octets.items c.args.count 65536 old.sent c.front_of-part.ensures c.piece_from.ensures c.as_slice.ensures.value in
    let waits = under_at moment heads seen taken old Waiting stage h in
    c.go_on.ensures.taken moment heads seen (taken ++ take c.args.count (take 65536 (drop old.sent old.ready.octets.items)))
    (taken_by moment heads seen taken old c.args.count 65536 c.front_of-part.result.now c.update.new.self is waits (c.update.ensures taken waits.hashed) (omega (arith, c.if-self-len.true, c.len.ensures, old.ready.octets.ok.0)))

pub returns-else-self-len-clause-taken : goal.returns-else-self-len-clause-taken
returns-else-self-len-clause-taken c moment heads seen taken stage h =
    let old = c.args.self.now in
    let is = part_is c.front_of-part.result.now c.piece_from.result.now c.as_slice.result.now old.ready.octets.items c.args.count 65536 old.sent c.front_of-part.ensures c.piece_from.ensures c.as_slice.ensures.value in
    let waits = under_at moment heads seen taken old Waiting stage h in
    at_under moment heads seen (taken ++ take c.args.count (take 65536 (drop old.sent old.ready.octets.items))) _ Waiting stage
    (waits_by moment heads seen taken old c.args.count 65536 c.front_of-part.result.now c.update.new.self is waits (c.update.ensures taken waits.hashed) (omega (arith, c.if-self-len.false, c.len.ensures, old.ready.octets.ok.0)))

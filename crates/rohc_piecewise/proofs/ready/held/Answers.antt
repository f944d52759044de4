use Rattle.std.proofs.Common.{sym, ◌∙◌}
use Rattle.rohc_piecewise.specs.Noted.{head_in}
use Rattle.rohc_piecewise.proofs.HeldLemmas.{seen_as, held_here, held_other, held_none}
use Rattle.rohc_piecewise.proofs.ready.held.Goals as goal

pub returns-then-is_same : goal.returns-then-is_same
returns-then-is_same c =
    let is = c.tables.ensures.tables.there c.args.link.number c.in-Some.records.now (sym c.in-Some.ensures.value) in
    seen_as c.get-then-is_same.result c.args.cid c.in-Some.records.now c.get-then-is_same.ensures.value
    ∙ sym (held_here c.args.concentrator.now (head_in c.args.link) c.args.cid c.in-Some.records.now is (sym c.is_same.ensures ∙ c.if-is_same.true))

pub returns-else-is_same : goal.returns-else-is_same
returns-else-is_same c =
    let is = c.tables.ensures.tables.there c.args.link.number c.in-Some.records.now (sym c.in-Some.ensures.value) in
    sym (held_other c.args.concentrator.now (head_in c.args.link) c.args.cid c.in-Some.records.now is (sym c.is_same.ensures ∙ c.if-is_same.false))

pub returns-in-None : goal.returns-in-None
returns-in-None c = sym (held_none c.args.concentrator.now (head_in c.args.link) c.args.cid (c.tables.ensures.tables.absent c.args.link.number (sym c.in-None.ensures.value)))

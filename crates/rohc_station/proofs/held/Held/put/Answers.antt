use Rattle.std.proofs.Common.{arith, ◌≤◌, vec_len, ◌++◌, map, ap, ◌∙◌, subst}
use Rattle.std.proofs.lemmas.List.Elements.{All-weaker}
use Rattle.rohc_station.specs.declared.held.Mark.{Mark}
use Rattle.rohc_station.specs.Held.{held_at}
use Rattle.rohc_station.proofs.HeldLemmas.{IsWithin, put_behind}
use Rattle.rohc_station.proofs.held.Held.put.Goals as goal

pub returns-clause-list : goal.returns-clause-list
returns-clause-list c =
    let old = c.args.self.now in
    let more = c.args.datagram.now in
    let all = All-weaker (λ (m : Mark). (m.start ≤ m.end) × (m.end ≤ vec_len old.octets)) (IsWithin old.octets.items) (λ m p. (p.0, subst (λ n. m.end ≤ n) old.octets.ok.0 p.1)) old.marks.items old.within in
    ap (λ xs. map (held_at xs) c.push.new.self.items) c.in-Ok.ensures.items
    ∙ ap (λ ms. map (held_at (old.octets.items ++ more)) ms) c.in-Ok-push.ensures.items
    ∙ put_behind old.octets.items more old.marks.items _ all (omega (arith, old.octets.ok.0)) (omega arith)

use Rattle.std.proofs.Common.{rules, ◌≡◌, ◌+◌, ◌≤◌, ◌∷◌, arith}
use Rattle.std.proofs.lemmas.List.Elements.{All-tail}
use Rattle.std.proofs.lemmas.List.Sums.{sum_by-cons}
use Rattle.rohc_c.specs.declared.many.RohcPacket.{RohcPacket}
use Rattle.rohc_c.proofs.taking_many.+are_within.Goals as goal

pub returns-clause-only : goal.returns-clause-only
returns-clause-only t c =
    let p = c.in-Some.packet.now in
    let later = c.in-Some.later.now in
    let Lies : RohcPacket → Type 0 = λ q. q.at + q.count ≤ c.args.most in
    let split : c.args.packets.now ≡ p ∷ later = search rules in
    rw split (λ all count. c.are_within.ensures.only (All-tail Lies p later all) (omega (arith, count, sum_by-cons (λ (q : RohcPacket). q.count) p later)))

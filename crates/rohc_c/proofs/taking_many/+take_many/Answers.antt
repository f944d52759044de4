use Rattle.std.proofs.Common.{rules, ◌≡◌, ◌+◌, ◌≤◌, ◌∷◌, All, length, sum_by, refl, sym, subst, arith}
use Rattle.std.proofs.lemmas.List.{drop_at}
use Rattle.std.proofs.lemmas.List.Elements.{All-tail}
use Rattle.std.proofs.lemmas.List.Sums.{sum_by-cons}
use Rattle.rohc_c.specs.declared.many.RohcPacket.{RohcPacket}
use Rattle.rohc_c.specs.Many.{needed, arrival_of, AreTold}
use Rattle.rohc_c.specs.Written.{Buffers, IsAnswerWritten}
use Rattle.rohc_c.proofs.ManyLemmas.{buffers_front, one_set}
use Rattle.rohc_c.proofs.taking_many.+take_many.Goals as goal

pub returns : goal.returns
returns t c =
    let p = c.in-Some.packet.now in
    let later = c.in-Some.later.now in
    let one = c.take_one.ensures in
    let part = c.take_one.new.part in
    let rest = c.take_many.new.room in
    let mid = c.take_one.new.concentrator in
    let split : c.args.packets.now ≡ p ∷ later = search rules in
    let size : length part ≡ needed p.count = search rules in
    let own = one_set c.split_at_mut-own.result.0.now c.take_one.new.answer (search rules) in
    let more = c.take_many.ensures in
    rw (split, own) (
      arrival_of p c.args.octets.now one.0 ∷ more.0,
      (
        one.0,
        more.0,
        refl,
        subst (λ (b : Buffers). IsAnswerWritten one.0 b c.take_one.new.answer) (sym (buffers_front p.count part rest size)) one.2,
        subst (λ r. AreTold later c.args.octets.now r c.take_many.new.answers more.0) (sym (drop_at part rest (needed p.count) size)) more.1,
      ),
      (mid, one.1, more.2),
    )

pub take_many-requires : goal.take_many-requires
take_many-requires t c =
    let p = c.in-Some.packet.now in
    let later = c.in-Some.later.now in
    let octets = c.args.octets.now in
    let Lies : RohcPacket → Type 0 = λ q. q.at + q.count ≤ length octets in
    let split : c.args.packets.now ≡ p ∷ later = search rules in (
      search rules,
      (
        All-tail Lies p later (subst (λ ps. All Lies ps) split c.requires.within),
        (
          omega (arith, sum_by-cons (λ (q : RohcPacket). needed q.count) p later, subst (λ ps. sum_by (λ (q : RohcPacket). needed q.count) ps ≤ length c.args.room.now) split c.requires.room, c.split_at_mut-part.ensures.back_len),
          search rules,
        ),
      ),
    )

use Rattle.std.proofs.Common.{rules, ◌≡◌, ◌+◌, ◌-◌, take, drop, arith, ap, sym, subst}
use Rattle.rohc_concentrator.specs.Calls.{Arrive, Reported}
use Rattle.rohc_concentrator.specs.RunsCall.{RunsCall}
use Rattle.rohc_c.specs.Written.{Buffers, IsAnswerWritten}
use Rattle.rohc_c.proofs.ManyLemmas.{buffers_are}
use Rattle.rohc_c.proofs.taking_many.take_one.Goals as goal

pub returns : goal.returns
returns c =
    let t = c.take_packet.ensures in
    let n = c.take_packet.new in
    let p = c.args.packet.now in
    let octets = c.args.octets.now in
    let span : take (p.at + p.count - p.at) (drop p.at octets) ≡ take p.count (drop p.at octets) = ap (λ k. take k (drop p.at octets)) (omega arith) in
    let buffers = buffers_are p.count n.packet n.feedback n.relayed (search rules) (search rules) (search rules) in (
      t.0,
      subst (λ os. RunsCall c.args.concentrator.now p.link (Arrive p.moment os) (Reported t.0) n.concentrator) span t.1,
      subst (λ (b : Buffers). IsAnswerWritten t.0 b n.arrival) (sym buffers) t.2,
    )

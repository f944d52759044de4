use Rattle.std.proofs.Common.{rules, arith, length, ◌-◌, refl}
use Rattle.rohc_c.specs.Written.{relayed_in}
use Rattle.rohc_c.proofs.RelayLemmas.{all_octets, relay_fits, wider}
use Rattle.rohc_c.proofs.PacketLemmas.{answer_within, more_within}
use Rattle.rohc_c.proofs.taking.take_later.Goals as goal

pub take_later-requires : goal.take_later-requires
take_later-requires c κs =
    let octets = c.args.octets.now in
    let all = all_octets octets (λ i. omega (arith, c.type_inv.octets i)) in (
      (refl, tt),
      (
        c.requires.missed,
        λ report after is. record {
          head = omega (arith, c.requires.room.packet);
          packet = more_within report (length octets) (length c.args.packet.now - 40) (omega (arith, c.requires.room.packet)) (answer_within _ _ _ _ _ _ all is);
          feedback = c.requires.room.feedback;
          relayed = wider (relayed_in report) (length octets) (length c.args.relayed.now) c.requires.room.relayed (relay_fits _ _ _ _ _ _ all is);
        },
      ),
    )

pub returns : goal.returns
returns c =
    let t = c.take_later.ensures.event in
    let written = t.4.written in
    let packet = t.4.packet_lent in
    let feedback = t.4.feedback_lent in
    let relayed = t.4.relayed_lent in
    let arrival = t.4.arrival_lent in
    (t.0, t.2, search rules)

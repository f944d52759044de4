use Rattle.std.proofs.Common.{◌≤◌, arith, length}
use Rattle.rohc_concentrator.proofs.ArrivedLemmas.{arrived}
use Rattle.rohc_concentrator.proofs.KeepLemmas.{runs_after}
use Rattle.rohc_c.proofs.RelayLemmas.{all_octets}
use Rattle.rohc_c.proofs.PacketLemmas.{answer_within}
use Rattle.rohc_c.proofs.taking.take_packet.Goals as goal

pub put_long-requires-clause-room : goal.put_long-requires-clause-room
put_long-requires-clause-room c =
    let all = all_octets c.args.octets.now (λ i. omega (arith, c.type_inv.octets i)) in
    let within : length c.in-Some.rebuilt.payload.now ≤ length c.args.octets.now = answer_within _ _ _ _ _ _ all (arrived _ _ _ _ _ _ c.in-Some.ensures.event) in
    omega (arith, within, c.requires.packet)

pub returns-in-None : goal.returns-in-None
returns-in-None c =
    let after = c.take_later.ensures in
    (after.0, runs_after _ _ _ _ _ _ c.in-None.ensures.stays after.1, after.2)

pub returns-in-Some : goal.returns-in-Some
returns-in-Some c = (_, c.in-Some.ensures.event, c.tell_alone.ensures c.in-Some.rebuilt.head.items c.in-Some.rebuilt.payload.now _ _ _ c.put_long.ensures)

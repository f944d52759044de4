use Rattle.std.proofs.Common.{rules}
use Rattle.std.proofs.Common.{tests}
use Rattle.rohc_context.proofs.Registers.{kept_first, kept_next}
use Rattle.rohc_context.proofs.next.next_reference.Goals as goal

pub returns-then-is_for_one_packet-clause-kept : goal.returns-then-is_for_one_packet-clause-kept
returns-then-is_for_one_packet-clause-kept c = λ fixed sound.
    kept_next fixed c.args.accepted.now.reference.moving c.args.accepted.now.header.moving c.args.accepted.now.reference.saved sound.kept sound.good

pub returns-clause-kept : goal.returns-clause-kept
returns-clause-kept c = λ fixed sound.
    kept_first fixed c.args.accepted.now.header.moving c.args.accepted.now.header.saved sound.good sound.registers

pub returns-clause-reference : goal.returns-clause-reference
returns-clause-reference c = let h = c.if-is_for_one_packet.ensures in search (tests, rules)

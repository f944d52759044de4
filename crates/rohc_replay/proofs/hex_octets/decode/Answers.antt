use Rattle.std.proofs.Common.{rules}
use Rattle.rohc_replay.proofs.DigitLemmas.{spelled, is_read, is_lower}
use Rattle.rohc_replay.proofs.hex_octets.decode.Goals as goal

pub returns-then-has_lower_bits-clause-spelled : goal.returns-then-has_lower_bits-clause-spelled
returns-then-has_lower_bits-clause-spelled c is =
    spelled c.args.text.now _ _ c.decode_to_slice.result c.requires c.decode_to_slice.ensures.value (search rules) (search rules)

pub returns-then-has_lower_bits-clause-only : goal.returns-then-has_lower_bits-clause-only
returns-then-has_lower_bits-clause-only c other octets same =
    let ok = is_read c.args.text.now other _ _ c.decode_to_slice.result c.requires c.decode_to_slice.ensures.value octets same in
    search rules

pub returns-else-has_lower_bits-clause-only : goal.returns-else-has_lower_bits-clause-only
returns-else-has_lower_bits-clause-only c other octets same =
    let lower = is_lower c.args.text.now other octets same in
    search rules

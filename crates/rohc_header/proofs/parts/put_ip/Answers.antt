use Rattle.std.proofs.Common.{◌++◌, ap, ◌∙◌}
use Rattle.rohc_header.specs.Original.{ip_front, addresses, word}
use Rattle.rohc_header.proofs.InARow.{three_written}
use Rattle.rohc_header.proofs.parts.put_ip.Goals as goal

pub returns : goal.returns
returns c =
    three_written c.args.octets.now.items (ip_front c.args.moving.now c.args.payload_len) _ (addresses c.args.fixed.now) _ _ _ c.put_ip_front.ensures
    (c.put_word.ensures ∙ ap (λ s. c.put_ip_front.new.octets.items ++ word s) c.checksum.ensures) c.put_addresses.ensures

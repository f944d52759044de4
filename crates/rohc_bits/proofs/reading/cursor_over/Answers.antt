use Rattle.rohc_bits.proofs.ReadingLemmas.{all_octets}
use Rattle.rohc_bits.proofs.reading.cursor_over.Goals as goal

pub returns-clause-octets : goal.returns-clause-octets
returns-clause-octets c = all_octets c.args.octets.now c.type_inv.octets

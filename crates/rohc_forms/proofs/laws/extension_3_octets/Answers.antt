use Rattle.rohc_forms.proofs.FormatLemmas.{eight_bits, in_place}
use Rattle.rohc_forms.proofs.laws.extension_3_octets.Goals as goal

pub returns-clause-whole : goal.returns-clause-whole
returns-clause-whole c = eight_bits

pub returns-clause-placed : goal.returns-clause-placed
returns-clause-placed c = in_place

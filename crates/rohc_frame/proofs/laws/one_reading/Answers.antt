use Rattle.rohc_frame.proofs.LawLemmas.{reading_from_parts, parts_from_reading, reading_one}
use Rattle.rohc_frame.proofs.laws.one_reading.Goals as goal

pub returns-clause-exact : goal.returns-clause-exact
returns-clause-exact c = λ size max_cid octets r. (reading_from_parts size max_cid octets r, parts_from_reading size max_cid octets r)

pub returns-clause-unique : goal.returns-clause-unique
returns-clause-unique c = reading_one

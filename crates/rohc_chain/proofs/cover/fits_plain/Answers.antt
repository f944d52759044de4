use Rattle.std.proofs.Common.{[], ◌∷◌, ap, eqb}
use Rattle.rohc_checks.specs.Division.{poly8}
use Rattle.rohc_frame.specs.Reading.{header_of}
use Rattle.rohc_chain.specs.Packets.{front}
use Rattle.rohc_chain.proofs.Checks.{check_of_two}
use Rattle.rohc_chain.proofs.cover.fits_plain.Goals as goal

pub returns : goal.returns
returns c = ap (λ r. eqb r c.args.octet) (rw (c.crc8.ensures, c.front_register.ensures) (check_of_two poly8 255 (front (header_of c.args.forward.now)) (0 ∷ [])))

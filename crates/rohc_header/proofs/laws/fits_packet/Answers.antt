use Rattle.std.proofs.Common.{arith}
use Rattle.rohc_header.proofs.laws.fits_packet.Goals as goal

pub returns : goal.returns
returns c = λ fixed moving payload_len octets is. let forty = is.forty in let fits = is.fits in omega (arith, forty, fits)

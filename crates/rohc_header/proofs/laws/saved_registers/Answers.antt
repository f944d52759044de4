use Rattle.rohc_checks.proofs.Division.{check-append}
use Rattle.rohc_header.specs.Check.{all_ones, static_octets, dynamic_octets}
use Rattle.rohc_header.proofs.laws.saved_registers.Goals as goal

pub returns : goal.returns
returns c = λ poly octets. check-append poly (all_ones poly) (static_octets octets) (dynamic_octets octets)

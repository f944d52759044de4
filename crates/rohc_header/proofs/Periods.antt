-- Both polynomials of a header's checks divide x^56 + 1.
use Rattle.rohc_header.specs.declared.polynomial.Polynomial.{Polynomial}
use Rattle.rohc_header.specs.declared.polynomial.Polynomial.TheVariants.{Three, Seven}
use Rattle.rohc_header.specs.Polynomial.{coefficients}
use Rattle.rohc_header.proofs.SevenOctets.{HasPeriod, period3, period7}

pub period : (p : Polynomial) → HasPeriod (coefficients p)
period Three = period3
period Seven = period7

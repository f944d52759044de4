-- The polynomials of header checks, by their names in the code.
use Rattle.std.specs.Prelude.{Bool, List}
use Rattle.rohc_checks.specs.Division.{poly3, poly7}
use Rattle.rohc_header.specs.declared.polynomial.Polynomial.{Polynomial}
use Rattle.rohc_header.specs.declared.polynomial.Polynomial.TheVariants.{Three, Seven}

-- the coefficients of a header check's polynomial
abbrev pub coefficients : Polynomial → List Bool
coefficients Three = poly3
coefficients Seven = poly7

use Rattle.std.proofs.Common.{ℕ, ◌<◌, ◌^◌, ◌≡◌, ◌∙◌, length, get_or, ap, rules}
use Rattle.rohc_checks.specs.Division.{check, degree}
use Rattle.rohc_header.specs.Check.{static_octets}
use Rattle.rohc_header.specs.Polynomial.{coefficients}
use Rattle.rohc_header.proofs.Checks.{static_folded, period_of, ones_below}
use Rattle.rohc_header.proofs.header.Header.static_register.Goals as goal

pub returns : goal.returns
returns c =
    let octets = c.args.self.now.octets in
    let poly = coefficients c.args.polynomial in
    let forty : length octets ≡ 40 = search rules in
    let small : (k : ℕ) → get_or octets k 0 < 256 = search rules in
    let low : c.ones.result < 2 ^ degree poly = rw c.ones.ensures (ones_below poly) in
    c.crc.ensures
    ∙ static_folded poly c.ones.result octets (period_of c.args.polynomial) low forty small
    ∙ ap (λ reg. check poly reg (static_octets octets)) c.ones.ensures

use Rattle.std.proofs.Common.{◌<◌, ◌≡◌, ℕ, length, get_or, bit_and, rules, ap, sym, ◌∙◌}
use Rattle.rohc_checks.specs.Division.{check, degree, poly7}
use Rattle.rohc_checks.proofs.Division.{check-and}
use Rattle.rohc_header.specs.Check.{dynamic_octets}
use Rattle.rohc_header.proofs.SevenOctets.{period7}
use Rattle.rohc_header.proofs.Checks.{masked, dynamic_folded, ones7}
use Rattle.rohc_header.proofs.header.check7_after.Goals as goal

pub returns : goal.returns
returns c =
    let octets = c.args.octets.now in
    let forty : length octets ≡ 40 = search rules in
    let small : (k : ℕ) → get_or octets k 0 < 256 = search rules in
    c.crc7.ensures
    ∙ dynamic_folded poly7 (bit_and c.args.reg 127) octets period7 (masked (degree poly7) c.args.reg 127 (sym ones7)) forty small
    ∙ ap (λ m. check poly7 (bit_and c.args.reg m) (dynamic_octets octets)) (sym ones7)
    ∙ check-and poly7 c.args.reg (dynamic_octets octets)

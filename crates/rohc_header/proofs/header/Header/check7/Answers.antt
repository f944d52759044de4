use Rattle.std.proofs.Common.{ap, ◌∙◌}
use Rattle.rohc_checks.specs.Division.{check, poly7}
use Rattle.rohc_checks.proofs.Division.{check-append}
use Rattle.rohc_header.specs.Check.{all_ones, static_octets, dynamic_octets}
use Rattle.rohc_header.proofs.header.Header.check7.Goals as goal

pub returns : goal.returns
returns c =
    let octets = c.args.self.now.octets in
    c.check7_from.ensures ∙ ap (λ reg. check poly7 reg (dynamic_octets octets)) c.static_register.ensures
    ∙ check-append poly7 (all_ones poly7) (static_octets octets) (dynamic_octets octets)

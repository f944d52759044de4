use Rattle.std.proofs.Common.{ap, ◌∙◌}
use Rattle.rohc_checks.specs.Division.{check, poly3}
use Rattle.rohc_checks.proofs.Division.{check-append}
use Rattle.rohc_header.specs.Check.{all_ones, static_octets, dynamic_octets}
use Rattle.rohc_header.proofs.header.Header.check3.Goals as goal

pub returns : goal.returns
returns c =
    let octets = c.args.self.now.octets in
    c.check3_from.ensures ∙ ap (λ reg. check poly3 reg (dynamic_octets octets)) c.static_register.ensures
    ∙ check-append poly3 (all_ones poly3) (static_octets octets) (dynamic_octets octets)

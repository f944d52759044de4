use Rattle.std.proofs.Common.{◌∙◌, not, ap}
use Rattle.std.proofs.lemmas.Bool.Decides.{same_from_decides}
use Rattle.rohc_station.specs.Same.{is_same_setting}
use Rattle.rohc_station.specs.Reload.{differs}
use Rattle.rohc_station.proofs.SameLemmas.{same_decides}
use Rattle.rohc_station.proofs.reload.differs.Goals as goal

pub returns-in-Some : goal.returns-in-Some
returns-in-Some c =
    let before = c.in-Some.before.now in
    let after = c.args.setting.now in
    ap not (same_from_decides c.is_same_setting.result (is_same_setting before after) c.is_same_setting.ensures (same_decides before after)) ∙ ap (λ set. differs set after) c.in-Some.ensures

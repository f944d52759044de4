use Rattle.std.proofs.Common.{◌≢◌, ◌+◌, ◌≤◌, arith}
use Rattle.std.proofs.lemmas.Bool.Decides.{nat_tests}
use Rattle.rohc_concentrator.specs.Setting.{settings_of}
use Rattle.rohc_concentrator.proofs.laws.expired_is_none.Goals as goal

pub returns : goal.returns
returns c = λ s cid moment r h response next expired step.
    let waits : s.settings.idle_ms ≢ 0 = grind (arith, nat_tests) in
    let over : r.accepted + s.settings.idle_ms ≤ moment = grind (arith, nat_tests) in
    c.waiting_times.ensures.idle r (settings_of s cid) moment h response next waits over step

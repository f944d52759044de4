use Rattle.std.proofs.Common.{◌≡◌, ◌-◌}
use Rattle.rohc_capture.specs.Frame.{untagged}
use Rattle.rohc_capture.proofs.frame.untagged.Given as goal

-- what is left is as the whole
abbrev pub invariant-loop : goal.invariant-loop
invariant-loop l = untagged (l.most - l.counter) l.vlan l.rest ≡ untagged l.most l.fn.vlan l.octets

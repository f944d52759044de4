use Rattle.std.proofs.Common.{◌≡◌}
use Rattle.rohc_explain.proofs.telling.Telling.row.Given as goal

-- the octets stay
abbrev pub invariant-loop-name : goal.invariant-loop-name
invariant-loop-name l = l.self.octets.now ≡ l.fn.self.octets.now
